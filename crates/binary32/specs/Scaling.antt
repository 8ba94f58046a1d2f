-- What the conversion of one number works with (src/coordinate). Assumes nothing.
use Rattle.std.specs.Prelude.{Bool, false, cond, ℕ, suc, ◌+◌, ◌*◌, ◌^◌, ◌≤◌, ℤ, Float, Result, Ok, Err}
use Rattle.std.specs.Coded.{×_prop, le_prop, Coded-set, coded_ℕ, coded_bool}
use Rattle.std.specs.Float.{nan, inf, fin}
use Rattle.std.specs.Float.Ieee.Scale.{finite}
use Rattle.std.specs.Float.Ieee.Exact.{HasValue}
use Rattle.constellation.specs.Ranges.{max_sample}
use Rattle.frame.specs.declared.Refusal.{Refusal}
use Rattle.frame.specs.declared.Refusal.TheVariants.{NotFinite, RoundsOutOfRange}
use Rattle.binary32.specs.Conversion.{max_scale, rounded, converts}

-- A scale F in its range, 2^F, and the largest size that rounds into the range of samples at it: a half above the range is settled to the even
-- number below, so that is (2·maxSample + 1) / 2 over 2^F.
pub record IsScaling (F : ℕ) (power largest : Float) : Type 0 where
  pub scale : F ≤ max_scale
  pub factor : HasValue power false (2 ^ F) 1
  pub limit : HasValue largest false (2 * max_sample + 1) (2 ^ suc F)

-- there is one proof of it at most, as a ghost field asks
HasValue_prop : (x : Float) (s : Bool) (a c : ℕ) → IsProp (HasValue x s a c)
HasValue_prop nan s a c = λ p q. elim p [ ]
HasValue_prop (inf t) s a c = λ p q. elim p [ ]
HasValue_prop (fin t m e) s a c = ×_prop (Coded-set coded_bool _ _) (Coded-set coded_ℕ _ _)

pub IsScaling_prop : (F : ℕ) (power largest : Float) → IsProp (IsScaling F power largest)
IsScaling_prop F power largest p q =
    λ i. record {
      scale = le_prop p.scale q.scale i;
      factor = HasValue_prop _ _ _ _ p.factor q.factor i;
      limit = HasValue_prop _ _ _ _ p.limit q.limit i;
    }

-- the refusal of a number that does not convert
unfoldable pub refusal_for : Float → Refusal
refusal_for x = cond (finite x) RoundsOutOfRange NotFinite

-- what a number converts to
unfoldable pub converted_number : ℕ → Float → Result ℤ Refusal
converted_number F x = cond (converts F x) (Ok (rounded F x)) (Err (refusal_for x))
