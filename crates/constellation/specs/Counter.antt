-- The counter-hypothesis of bit i (REQUIREMENTS, "Probes": the rival index ki; 001, equations 5 and 11).
-- That it is the best index with the other bit is proofs/AxisCounter and proofs/PhaseCounter. Assumes nothing.
use Rattle.std.specs.Prelude.{ℕ, zero, suc, ◌+◌, ◌*◌, ◌-◌, ◌/◌, ◌^◌}
use Rattle.constellation.specs.Gray.{digit}

-- digits c0 to c(i−1) of k kept and the rest zero, plus 2^(m−i−1), minus ci
unfoldable pub axis_counter : ℕ → ℕ → ℕ → ℕ
axis_counter m k i = k / 2 ^ (m - i) * 2 ^ (m - i) + 2 ^ (m - suc i) - digit m i k

-- bit 0 of a phase: (1 − c0)·2^(m−1) + (1 − c1)·(2^(m−1) − 1); with m = 1 the second term is 0. Later bits are as on an axis.
unfoldable pub phase_counter : ℕ → ℕ → ℕ → ℕ
phase_counter m k zero = (1 - digit m 0 k) * 2 ^ (m - 1) + (1 - digit m 1 k) * (2 ^ (m - 1) - 1)
phase_counter m k (suc i) = axis_counter m k (suc i)
