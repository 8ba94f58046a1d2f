-- Points of PSK, and their cost (REQUIREMENTS, "Points and labels" and "Cost of a point"). Coordinates are in units of 1/16384.
-- Symmetry and convexity of the tables are proofs/PskTables. Assumes nothing.
use Rattle.std.specs.Prelude.{◌≡◌, cond, List, [], ◌∷◌, ℕ, zero, suc, ◌*◌, ◌-◌, ◌/◌, ◌%◌, ◌^◌, ◌≤◌, ◌<◌, eqb, ℤ, pos, neg_ℤ, ◌+ℤ◌, ◌*ℤ◌, get_or}
use Rattle.arithmetic.specs.Lists.{joined}
use Rattle.constellation.specs.Ranges.{max_phase_bits}

-- a point (u, v)
pub record Point : Type 0 where
  pub u : ℤ
  pub v : ℤ

abbrev pub point : ℤ → ℤ → Point
point a b = record { u = a; v = b }

-- m = 1: the two points
unfoldable pub psk_halves : List Point
psk_halves = point (pos 0) (pos 16384) ∷ point (pos 0) (neg_ℤ (pos 16384)) ∷ []

-- m = 2, 3 and 4: the points of the first quarter, 2 ^ (m − 2) of them
unfoldable pub psk_quarters : List (List Point)
psk_quarters =
    (point (pos 11585) (pos 11585) ∷ [])
    ∷ (point (pos 15137) (pos 6270) ∷ point (pos 6270) (pos 15137) ∷ [])
    ∷ (point (pos 16069) (pos 3196) ∷ point (pos 13623) (pos 9102) ∷ point (pos 9102) (pos 13623) ∷ point (pos 3196) (pos 16069) ∷ [])
    ∷ []

-- n quarter turns: if k is (u, v) then k + 2 ^ (m − 2) is (−v, u)
unfoldable pub turned : ℕ → Point → Point
turned zero p = p
turned (suc n) p = let q = turned n p in point (neg_ℤ q.v) q.u

-- point k of PSK with m bits, m from 1 to 4 and k below 2 ^ m
unfoldable pub psk_point : ℕ → ℕ → Point
psk_point m k =
    cond (eqb m 1)
    (get_or psk_halves k (point (pos 0) (pos 0)))
    (turned (k / 2 ^ (m - 2)) (get_or (get_or psk_quarters (m - 2) []) (k % 2 ^ (m - 2)) (point (pos 0) (pos 0))))

-- coordinates of the points of m = 1 to 4, u then v, one modulation after the other: point k of m starts at 2·(2^m − 2 + k)
unfoldable pub psk_coordinates : List ℤ
psk_coordinates = joined (λ j. joined (λ k. (psk_point (suc j) k).u ∷ (psk_point (suc j) k).v ∷ []) (2 ^ suc j)) 4

-- the table holds these coordinates, and point k of m bits is among them
pub record TableWith (table : List ℤ) (m k : ℕ) : Type 0 where
  pub contents : table ≡ psk_coordinates
  pub some : 1 ≤ m
  pub few : m ≤ max_phase_bits
  pub below : k < 2 ^ m

-- the inner product of (a, b) with point k
abbrev pub inner_product : ℕ → ℕ → ℤ → ℤ → ℤ
inner_product m k a b = a *ℤ (psk_point m k).u +ℤ b *ℤ (psk_point m k).v

-- coordinates are in units of 1/16384 = 2 ^ −14
abbrev pub psk_fraction_bits : ℕ
psk_fraction_bits = 14

-- the cost of point k, for the gain g and the sample (y_i, y_q): −2·g·(yI·u + yQ·v), in units of 1/16384. It is not the squared distance to
-- the rounded point, whose radius varies a little with k.
unfoldable pub phase_cost : ℕ → ℕ → ℤ → ℤ → ℕ → ℤ
phase_cost m g y_i y_q k = neg_ℤ (pos (2 * g) *ℤ inner_product m k y_i y_q)
