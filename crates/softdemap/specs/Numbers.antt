-- What the exported calls promise, with the number that stands for an answer in C (crate call_numbers, specs/Numbers).
-- Assumes nothing.
use Rattle.std.specs.Prelude.{◌≡◌, List, ℕ, ℤ, get_or, Float, Result}
use Rattle.arithmetic.specs.Lists.{over}
use Rattle.demapper.specs.Reading.{Buffers}
use Rattle.frame.specs.declared.Fault.{Fault}
use Rattle.frame.specs.declared.Served.{Served}
use Rattle.frame.specs.declared.Refusal.{Refusal}
use Rattle.frame.specs.declared.Header.{Header}
use Rattle.frame.specs.declared.Refusal.{Refusal}
use Rattle.frame.specs.Limits.{full_limits}
use Rattle.frame.specs.Frame.{Frame}
use Rattle.frame.specs.Mapping.{Message}
use Rattle.frame.specs.Promise.{FramePromise, MapPromise}
use Rattle.line_text.specs.LineCall.{line_number}
use Rattle.line_call.specs.Promise.{LinePromise}
use Rattle.sizes.specs.declared.Sizes.{Sizes}
use Rattle.sizes.specs.Sizes.{sizes_status, sizes_values}
use Rattle.sizes.specs.Promise.{SizesPromise}
use Rattle.capture.specs.declared.Sample.{Sample}
use Rattle.capture.specs.declared.CaptureFault.{CaptureFault}
use Rattle.capture.specs.Answers.{conversion_status}
use Rattle.capture.specs.Samples.{sample_status, sample_values, SamplePromise}
use Rattle.capture.specs.Capture.{Recording, CapturePromise}
use Rattle.capture.specs.SoftOut.{soft_status, soft_floats, SoftPromise, SoftsPromise}
use Rattle.call_numbers.specs.Numbers.{frame_number, map_number, capture_number}

-- the sizes that a header calls for: handed out where there are some, else what was lent
pub record SizesCalled (h : Header) (lent out : List ℕ) (number : ℕ) : Type 0 where
  pub answer : Result Sizes Refusal
  pub promise : SizesPromise full_limits h answer
  pub numbered : number ≡ sizes_status answer
  pub handed : out ≡ over lent 0 (sizes_values answer)

-- the number is that of the frame call's answer
pub record FrameCalled (f : Frame) (lent out : Buffers) (number : ℕ) : Type 0 where
  pub answer : Result Served Fault
  pub promise : FramePromise f lent out answer
  pub numbered : number ≡ frame_number answer

-- the number is that of the mapping call's answer
pub record MapCalled (m : Message) (lent_i lent_q out_i out_q : List ℤ) (number : ℕ) : Type 0 where
  pub answer : Result ℕ Refusal
  pub promise : MapPromise m lent_i lent_q out_i out_q answer
  pub numbered : number ≡ map_number answer

-- the number is that of the line call's answer
pub record LineCalled (line lent out : List ℕ) (number : ℕ) : Type 0 where
  pub answer : Result ℕ Fault
  pub promise : LinePromise full_limits line lent out answer
  pub numbered : number ≡ line_number answer

-- ---- captures in binary32

-- converting a sample: the whole numbers handed out where there are some, else what was lent
pub record SampleCalled (F : ℕ) (s : Sample Float) (lent out : List ℤ) (number : ℕ) : Type 0 where
  pub answer : Result (Sample ℤ) Refusal
  pub promise : SamplePromise F s answer
  pub numbered : number ≡ sample_status answer
  pub handed : out ≡ over lent 0 (sample_values answer)

pub record CaptureCalled (c : Recording) (lent_i lent_q out_i out_q : List ℤ) (number : ℕ) : Type 0 where
  pub answer : Result ℕ CaptureFault
  pub promise : CapturePromise c lent_i lent_q out_i out_q answer
  pub numbered : number ≡ capture_number answer

-- converting a soft value: the binary32 number handed out where there is one, else what was lent
pub record SoftCalled (f : ℕ) (v : ℤ) (lent out : Float) (number : ℕ) : Type 0 where
  pub answer : Result Float Refusal
  pub promise : SoftPromise f v answer
  pub numbered : number ≡ soft_status answer
  pub handed : out ≡ get_or (soft_floats answer) 0 lent

pub record SoftsCalled (f : ℕ) (vs : List ℤ) (lent out : List Float) (number : ℕ) : Type 0 where
  pub answer : Result ℕ CaptureFault
  pub promise : SoftsPromise f vs lent out answer
  pub numbered : number ≡ conversion_status answer
