-- The order of checks: an accepted input breaks none, and a refused one gets its refusal from the first that it breaks.
-- Then a flag that the code makes of two tests, and what is known of an input that the checks shared by frames and mapping accept.
-- Assumes nothing.
use mathlib.Core.Path.{◌≡◌, refl, sym, ap, ◌∙◌}
use mathlib.Core.Logic.{◌≢◌, ◌↔◌, ◌⊎◌, inl, inr}
use mathlib.Core.Bool.{Bool, true, false, ◌||◌}
use mathlib.Core.List.{List, [], ◌∷◌, ◌++◌}
use mathlib.Core.List.Memᴰ
use mathlib.Core.List.{Memᴰ}
use Prim.Native.Nat.{ℕ, zero, suc, ◌+◌, ◌≤◌, ◌<◌}
use native.Mathlib.Nat.{eq-or-lt_of_le, le_of_suc-le-suc}
use native.Mathlib.Omega.{arith}
use Rattle.arithmetic.specs.Lists.{joined}
use Rattle.arithmetic.proofs.Tests.{tests-false}
use Rattle.constellation.specs.Schemes.{ModulationInRange, bits_per_symbol}
use Rattle.std.specs.Prelude.{Result, Err, IsErrAnd}
use Rattle.std.proofs.lemmas.Result.{err_from_is_err_and}
use Rattle.frame.specs.declared.Fault.{Fault}
use Rattle.frame.specs.declared.Refusal.{Refusal}
use Rattle.frame.specs.declared.Limits.{Limits}
use Rattle.frame.specs.Frame.{is_weighted, plain_kind, modulation_of, symbols_for}
use Rattle.frame.specs.Verdicts.{Passed, Failed}
use Rattle.frame.specs.Checks.{max_kind, Check, verdict_of, bits_outside, modulation_checks}

-- ---- the verdict

pub verdict_broken : (c : Check) (cs : List Check) → c.broken ≡ true → verdict_of (c ∷ cs) ≡ Failed c.refusal c.symbol
unfolding verdict_of
verdict_broken c cs h = rw h

pub verdict_kept : (c : Check) (cs : List Check) → c.broken ≡ false → verdict_of (c ∷ cs) ≡ verdict_of cs
unfolding verdict_of
verdict_kept c cs h = rw h

never : {r : Refusal} {n : ℕ} → Passed ≡ Failed r n → ⊥
never e = let z : ◌≡◌ {A = ℕ} 0 1 = cc in omega arith

failed_same : {r s : Refusal} {n m : ℕ} → Failed r n ≡ Failed s m → (r ≡ s) × (n ≡ m)
failed_same {r} {s} {n} {m} e =
    let same : ◌≡◌ {A = Fault} (record { refusal = r; symbol = n }) (record { refusal = s; symbol = m }) = cc in
    (ap (λ (fault : Fault). fault.refusal) same, ap (λ (fault : Fault). fault.symbol) same)

-- a `?` hands on what refuses
pub handed_on : {A E : Type 0} {v : Result A E} {e : E} (r : Result A E) → IsErrAnd r (λ x. x ≡ e) → Err e ≡ v → r ≡ v
handed_on r h is = let p = err_from_is_err_and r h in rw (p.1, p.2) is

pub verdict_nil : verdict_of [] ≡ Passed
unfolding verdict_of
verdict_nil = refl

pub accepted_cons : (c : Check) (cs : List Check) → (verdict_of (c ∷ cs) ≡ Passed) ↔ ((c.broken ≡ false) × (verdict_of cs ≡ Passed))
accepted_cons c cs = ((λ e. go e c.broken refl), λ p. verdict_kept c cs p.0 ∙ p.1)
  where
    go : verdict_of (c ∷ cs) ≡ Passed → (b : Bool) → c.broken ≡ b → (c.broken ≡ false) × (verdict_of cs ≡ Passed)
    go e true h = absurd (never (sym e ∙ verdict_broken c cs h))
    go e false h = (h, sym (verdict_kept c cs h) ∙ e)

-- kept checks may be left out in front
pub verdict_append : (cs ds : List Check) → verdict_of cs ≡ Passed → verdict_of (cs ++ ds) ≡ verdict_of ds
verdict_append [] ds e = refl
verdict_append (c ∷ cs) ds e =
    let (kept, rest) = (accepted_cons c cs).0 e in
    verdict_kept c (cs ++ ds) kept ∙ verdict_append cs ds rest

-- and the front decides where it refuses
pub verdict_front : (cs ds : List Check) {r : Refusal} {n : ℕ} → verdict_of cs ≡ Failed r n → verdict_of (cs ++ ds) ≡ Failed r n
verdict_front [] ds e = absurd (never (sym verdict_nil ∙ e))
verdict_front (c ∷ cs) ds {r} {n} e = go c.broken refl (verdict_front cs ds)
  where
    go : (b : Bool) → c.broken ≡ b → (verdict_of cs ≡ Failed r n → verdict_of (cs ++ ds) ≡ Failed r n) → verdict_of (c ∷ (cs ++ ds)) ≡ Failed r n
    go true h later = verdict_broken c (cs ++ ds) h ∙ sym (verdict_broken c cs h) ∙ e
    go false h later = verdict_kept c (cs ++ ds) h ∙ later (sym (verdict_kept c cs h) ∙ e)

front_accepted : (cs ds : List Check) → verdict_of (cs ++ ds) ≡ Passed → verdict_of cs ≡ Passed
front_accepted [] ds e = verdict_nil
front_accepted (c ∷ cs) ds e =
    let (kept, rest) = (accepted_cons c (cs ++ ds)).0 e in
    verdict_kept c cs kept ∙ front_accepted cs ds rest

pub accepted_append : (cs ds : List Check) → (verdict_of (cs ++ ds) ≡ Passed) ↔ ((verdict_of cs ≡ Passed) × (verdict_of ds ≡ Passed))
accepted_append cs ds =
    ((λ e. let front = front_accepted cs ds e in (front, sym (verdict_append cs ds front) ∙ e)), λ p. verdict_append cs ds p.0 ∙ p.1)

pub accepted_joined : (f : ℕ → List Check) (n : ℕ) → ((i : ℕ) → i < n → verdict_of (f i) ≡ Passed) → verdict_of (joined f n) ≡ Passed
unfolding joined
accepted_joined f zero all = verdict_nil
accepted_joined f (suc n) all = (accepted_append (joined f n) (f n)).1 (accepted_joined f n (λ i h. all i (omega arith)), all n (omega arith))

pub joined_accepted : (f : ℕ → List Check) (n : ℕ) → verdict_of (joined f n) ≡ Passed → (i : ℕ) → i < n → verdict_of (f i) ≡ Passed
unfolding joined
joined_accepted f zero e i h = absurd (omega arith)
joined_accepted f (suc n) e i h =
    let (before, last) = (accepted_append (joined f n) (f n)).0 e in
    go last (eq-or-lt_of_le (le_of_suc-le-suc h)) (joined_accepted f n before i)
  where
    go : verdict_of (f n) ≡ Passed → (i ≡ n) ⊎ (i < n) → (i < n → verdict_of (f i) ≡ Passed) → verdict_of (f i) ≡ Passed
    go last (inl s) earlier = rw s last
    go last (inr l) earlier = earlier l

-- the first of the lists that refuses decides
pub joined_refused : (f : ℕ → List Check) (n i : ℕ) {r : Refusal} {s : ℕ} → i < n → verdict_of (joined f i) ≡ Passed → verdict_of (f i) ≡ Failed r s
    → verdict_of (joined f n) ≡ Failed r s
unfolding joined
joined_refused f zero i h before here = absurd (omega arith)
joined_refused f (suc n) i {r} {s} h before here = go (eq-or-lt_of_le (le_of_suc-le-suc h)) (λ l. joined_refused f n i l before here)
  where
    go : (i ≡ n) ⊎ (i < n) → (i < n → verdict_of (joined f n) ≡ Failed r s) → verdict_of (joined f n ++ f n) ≡ Failed r s
    go (inl e) earlier = rw (← e) (verdict_append (joined f i) (f i) before ∙ here)
    go (inr l) earlier = verdict_front (joined f n) (f n) (earlier l)

-- by membership
pub verdict_accepted : (cs : List Check) → verdict_of cs ≡ Passed → (c : Check) → Memᴰ c cs → c.broken ≡ false
verdict_accepted [] e c m = absurd (Memᴰ.not-nil m)
verdict_accepted (d ∷ cs) e c (Memᴰ.head s) = rw s ((accepted_cons d cs).0 e).0
verdict_accepted (d ∷ cs) e c (Memᴰ.tail m) = verdict_accepted cs ((accepted_cons d cs).0 e).1 c m

pub accepted_verdict : (cs : List Check) → ((c : Check) → Memᴰ c cs → c.broken ≡ false) → verdict_of cs ≡ Passed
accepted_verdict [] all = verdict_nil
accepted_verdict (c ∷ cs) all = (accepted_cons c cs).1 (all c (Memᴰ.head refl), accepted_verdict cs (λ d m. all d (Memᴰ.tail m)))

-- the first check of a list that is broken, and that it gives refusal r at symbol n
pub record FirstBroken (cs : List Check) (r : Refusal) (n : ℕ) : Type 0 where
  pub before : List Check
  pub broken : Check
  pub after : List Check
  pub split : cs ≡ before ++ broken ∷ after
  pub earlier : (c : Check) → Memᴰ c before → c.broken ≡ false
  pub fails : broken.broken ≡ true
  pub refusal : broken.refusal ≡ r
  pub symbol : broken.symbol ≡ n

kept_cons : {d : Check} {cs : List Check} → ((c : Check) → Memᴰ c cs → c.broken ≡ false) → d.broken ≡ false
    → (c : Check) → Memᴰ c (d ∷ cs) → c.broken ≡ false
kept_cons kept h c (Memᴰ.head s) = rw s h
kept_cons kept h c (Memᴰ.tail m) = kept c m

pub verdict_refused : (cs : List Check) (r : Refusal) (n : ℕ) → verdict_of cs ≡ Failed r n → FirstBroken cs r n
verdict_refused [] r n e = absurd (never (sym verdict_nil ∙ e))
verdict_refused (d ∷ cs) r n e = go d.broken refl (verdict_refused cs r n)
  where
    go : (b : Bool) → d.broken ≡ b → (verdict_of cs ≡ Failed r n → FirstBroken cs r n) → FirstBroken (d ∷ cs) r n
    go true h later =
        let same = failed_same (sym (verdict_broken d cs h) ∙ e) in
        record {
          before = [];
          broken = d;
          after = cs;
          split = refl;
          earlier = λ c m. absurd (Memᴰ.not-nil m);
          fails = h;
          refusal = same.0;
          symbol = same.1;
        }
    go false h later =
        let p : FirstBroken cs r n = later (sym (verdict_kept d cs h) ∙ e) in
        record {
          before = d ∷ p.before;
          broken = p.broken;
          after = p.after;
          split = ap (λ (l : List Check). d ∷ l) p.split;
          earlier = kept_cons p.earlier h;
          fails = p.fails;
          refusal = p.refusal;
          symbol = p.symbol;
        }

pub refused_verdict : {cs : List Check} {r : Refusal} {n : ℕ} → FirstBroken cs r n → verdict_of cs ≡ Failed r n
refused_verdict p =
    ap verdict_of p.split
    ∙ verdict_append p.before (p.broken ∷ p.after) (accepted_verdict p.before p.earlier)
    ∙ verdict_broken p.broken p.after p.fails
    ∙ rw (p.refusal, p.symbol)

-- `simp kept-checks` turns `verdict_of .. ≡ accepted` into statements of arithmetic, one for each check
pub ruleset kept-checks = (accepted_cons, accepted_append, tests-false)

-- ---- a flag of the code: the first of two tests, or where it is not passed the second

pub or_flag : {P Q : Type 0} {a b flag : Bool} → P ⊎ Q → (P → (a ≡ true) × (flag ≡ a)) → (Q → (a ≡ false) × (flag ≡ b)) → a || b ≡ flag
or_flag (inl w) p q = let (h, e) = p w in rw (e, h)
or_flag (inr w) p q = let (h, e) = q w in rw h (sym e)

-- ---- the modulation's checks

-- what is known of a modulation and a payload that are not refused
pub record ModulationAccepted (limits : Limits) (kind m_i m_q payload : ℕ) : Type 0 where
  pub kind_known : kind ≤ max_kind
  pub bits_in : bits_outside kind m_i m_q ≡ false
  pub bits_ok : ModulationInRange (modulation_of kind m_i m_q)
  pub payload_some : payload ≢ 0
  pub symbols_few : symbols_for (bits_per_symbol (modulation_of kind m_i m_q)) payload ≤ limits.symbols

-- a kind that is known has no weights
pub known_plain : (kind : ℕ) → kind ≤ max_kind → (is_weighted kind ≡ false) × (plain_kind kind ≡ kind)
unfolding is_weighted plain_kind
known_plain zero h = (refl, refl)
known_plain (suc zero) h = (refl, refl)
known_plain (suc (suc zero)) h = (refl, refl)
known_plain (suc (suc (suc zero))) h = (refl, refl)
known_plain (suc (suc (suc (suc n)))) h = absurd (omega arith)

pub bits_in_range : (kind m_i m_q : ℕ) → bits_outside kind m_i m_q ≡ false → ModulationInRange (modulation_of kind m_i m_q)
unfolding bits_outside modulation_of
bits_in_range zero m_i m_q = simp tests-false (omega arith)
bits_in_range (suc zero) m_i m_q = simp tests-false (omega arith)
bits_in_range (suc (suc zero)) m_i m_q = simp tests-false (omega arith)
bits_in_range (suc (suc (suc n))) m_i m_q = simp tests-false (omega arith)

-- of every kind a symbol has the bits of both counts
pub bits_sum : (kind m_i m_q : ℕ) → bits_outside kind m_i m_q ≡ false → bits_per_symbol (modulation_of kind m_i m_q) ≡ m_i + m_q
unfolding bits_outside modulation_of bits_per_symbol
bits_sum zero m_i m_q = simp tests-false (omega arith)
bits_sum (suc zero) m_i m_q = simp tests-false (omega arith)
bits_sum (suc (suc zero)) m_i m_q = simp tests-false (omega arith)
bits_sum (suc (suc (suc n))) m_i m_q = simp tests-false (omega arith)

pub modulation_accepted : (limits : Limits) (kind m_i m_q payload : ℕ) → verdict_of (modulation_checks limits kind m_i m_q payload) ≡ Passed
    → ModulationAccepted limits kind m_i m_q payload
unfolding modulation_checks
modulation_accepted limits kind m_i m_q payload e =
    let (known, (outside, ((some, few), end))) = simp kept-checks at e in
    record { kind_known = known; bits_in = outside; bits_ok = bits_in_range kind m_i m_q outside; payload_some = some; symbols_few = few }
