-- What the calls promise, of what was handed in and out, for every input of their types. Assumes nothing.
use Rattle.std.specs.Prelude.{◌≡◌, ◌≢◌, List, ℕ, ℤ, take, Result}
use Rattle.arithmetic.specs.Lists.{over}
use Rattle.demapper.specs.Reading.{Buffers}
use Rattle.frame.specs.declared.Fault.{Fault}
use Rattle.frame.specs.declared.Refusal.{Refusal}
use Rattle.frame.specs.declared.Served.{Served}
use Rattle.frame.specs.Verdicts.{Passed}
use Rattle.frame.specs.Answers.{frame_status, frame_probes, map_status}
use Rattle.frame.specs.Limits.{full_limits}
use Rattle.frame.specs.Frame.{Frame}
use Rattle.frame.specs.FrameCall.{frame_answer, buffers_for}
use Rattle.frame.specs.Demand3.{Demand3}
use Rattle.frame.specs.Mapping.{Message, map_answer, mapped_i, mapped_q}

-- what the buffers begin with: the payload's hard bits and soft values, and so many probes
abbrev pub beginning : ℕ → ℕ → Buffers → Buffers
beginning payload count out =
    record {
      hard = take payload out.hard;
      soft = take payload out.soft;
      indices = take count out.indices;
      costs = take count out.costs;
    }

-- the frame call on the frame f: the lent buffers before it and after it, and its answer
pub record FramePromise (f : Frame) (lent out : Buffers) (answer : Result Served Fault) : Type 0 where
  -- demand 1: the refusal of the first check that fails, or the number of probes
  pub answered : answer ≡ frame_answer full_limits f lent
  pub refused_keeps : frame_status answer ≢ 0 → out ≡ lent
  -- demand 2: the lists of the definitions, and behind them what was there
  pub served_writes : frame_status answer ≡ 0 → out ≡ buffers_for Passed f lent
  -- demand 3, of what was handed out
  pub served_shows : frame_status answer ≡ 0 → Demand3 f (beginning f.header.payload (frame_probes answer) out) (frame_probes answer)

-- the mapping call on the message m: the two lent buffers before it and after it, and its answer
pub record MapPromise (m : Message) (lent_i lent_q out_i out_q : List ℤ) (answer : Result ℕ Refusal) : Type 0 where
  pub answered : answer ≡ map_answer full_limits m lent_i lent_q
  pub refused_keeps : map_status answer ≢ 0 → (out_i ≡ lent_i) × (out_q ≡ lent_q)
  -- the samples of the definitions, and behind them what was there; PAM has none for the second buffer
  pub served_writes : map_status answer ≡ 0 → (out_i ≡ over lent_i 0 (mapped_i m)) × (out_q ≡ over lent_q 0 (mapped_q m))
