-- `symbols_for` meets its contract: it rounds up, and no bits need no symbol. Assumes nothing.
use mathlib.Core.Path.{◌≡◌, refl, sym, ◌∙◌}
use Prim.Native.Nat.{ℕ, zero, suc, ◌+◌, ◌/◌, ◌%◌, ◌<◌, min}
use native.Mathlib.Nat.{div-zero, div-add-mod', lt_of_mul-lt-mul_right}
use native.Mathlib.Omega.{arith}
use Rattle.frame.specs.Frame.{symbols_for}
use Rattle.frame.proofs.Parts.{symbols_enough, symbols_needed, symbols_padded, symbols_unpadded}
use Rattle.header_checks.proofs.symbols_for.Goals as goal

no_bits : (payload : ℕ) → symbols_for 0 payload ≡ 0
unfolding symbols_for
no_bits payload = div-zero _

-- the whole symbols, and one more where these leave something over
rounded_up : (b payload : ℕ) → 0 < b → payload / b + min 1 (payload % b) ≡ symbols_for b payload
rounded_up b payload h = go (payload % b) refl
  where
    go : (r : ℕ) → payload % b ≡ r → payload / b + min 1 r ≡ symbols_for b payload
    go zero e = sym ((symbols_unpadded b payload h (symbols_needed b payload _ h (omega (arith, div-add-mod' payload b)))).0 ∙ omega arith)
    go (suc r) e =
        let more : payload / b < symbols_for b payload = lt_of_mul-lt-mul_right b (omega (arith, div-add-mod' payload b, symbols_enough b payload h)) in
        sym (symbols_padded b payload h more ∙ omega arith)

pub returns-then-bits-eq0 : goal.returns-then-bits-eq0
returns-then-bits-eq0 c = rw c.if-bits-eq0.true (sym (no_bits c.args.payload))

pub returns-else-bits-eq0 : goal.returns-else-bits-eq0
returns-else-bits-eq0 c = c.div_ceil.ensures ∙ rounded_up c.args.bits c.args.payload (omega arith)
