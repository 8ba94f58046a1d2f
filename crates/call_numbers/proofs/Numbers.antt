-- The number of an answer of which C has no other, for each call that returns it: the definitions of the mapping call, the line call and the conversion of soft
-- values. Assumes nothing.
use mathlib.Core.Path.{◌≡◌}
use Prim.Native.Nat.{ℕ}
use native.Mathlib.Omega.{arith}
use Rattle.std.specs.Prelude.{Result, Ok, Err, MatchResult, IsErrAnd}
use Rattle.frame.specs.declared.Fault.{Fault}
use Rattle.frame.specs.declared.Refusal.{Refusal}
use Rattle.frame.specs.Answers.{map_status, map_symbol}
use Rattle.line_text.specs.LineCall.{line_status, line_symbol, line_number}
use Rattle.capture.specs.declared.CaptureFault.{CaptureFault}
use Rattle.capture.specs.Answers.{conversion_status}
use Rattle.call_numbers.specs.Numbers.{map_number, IsAnswerNumber}

-- a refusal becomes the fault of the whole input
abbrev pub OfWhole : Refusal → Fault → Type 0
OfWhole r fault = fault ≡ record { refusal = r; symbol = 0 }

-- a fault is one already
abbrev pub Same : Fault → Fault → Type 0
Same given fault = fault ≡ given

pub map_numbered : (answer : Result ℕ Refusal) {number : ℕ} → IsAnswerNumber OfWhole answer number → number ≡ map_number answer
unfolding map_number map_status map_symbol
map_numbered (Ok count) e = e
map_numbered (Err r) (fault, is, e) = rw is at e

pub line_numbered : (answer : Result ℕ Fault) {number : ℕ} → IsAnswerNumber Same answer number → number ≡ line_number answer
unfolding line_number line_status line_symbol
line_numbered (Ok count) e = e
line_numbered (Err given) (fault, is, e) = rw is at e

-- by the refusals alone, whose symbol's number is 0
pub softs_numbered : (answer : Result ℕ CaptureFault) (refused : Result ℕ Refusal) {number : ℕ} (P : CaptureFault → Refusal → Type 0)
    → ((fault : CaptureFault) (r : Refusal) → P fault r → r ≡ fault.refusal)
    → MatchResult answer (λ count. refused ≡ Ok count) (λ fault. IsErrAnd refused (P fault))
    → IsAnswerNumber OfWhole refused number → number ≡ conversion_status answer
unfolding conversion_status
softs_numbered (Ok count) refused P gives is e = rw is at e
softs_numbered (Err given) (Err r) P gives is (fault, whole, e) = let same = gives given r is in omega (arith, rw (whole, same) at e)
softs_numbered (Err given) (Ok count) P gives is e = elim is [ ]
