-- The ranges of what a symbol is made and received with (REQUIREMENTS, "Points and labels" and "Cost of a point"). Assumes nothing.
use Rattle.std.specs.Prelude.{ℕ, ◌+◌, ◌*◌, ◌^◌, ◌≤◌, ◌<◌, ℤ, nat_abs}

-- bits of PAM and of each QAM axis, and bits of PSK, from 1
abbrev pub max_axis_bits : ℕ
max_axis_bits = 6

abbrev pub max_phase_bits : ℕ
max_phase_bits = 4

-- bits of each axis with cellular labels, from 1
abbrev pub max_cellular_bits : ℕ
max_cellular_bits = 3

-- the most label bits of a symbol, and the most probes: those of QAM with the most bits on each axis
abbrev pub max_symbol_bits : ℕ
max_symbol_bits = 2 * max_axis_bits

abbrev pub max_symbol_probes : ℕ
max_symbol_probes = 2 * max_axis_bits + 2

abbrev pub max_gain : ℕ
max_gain = 4095

-- samples lie from −maxSample to max_sample
abbrev pub max_sample : ℕ
max_sample = 1048576

-- a sample times twice its gain
abbrev pub max_weighted : ℕ
max_weighted = 2 * max_gain * max_sample

-- an index of m bits
pub record IndexInRange (m k : ℕ) : Type 0 where
  pub few : m ≤ max_axis_bits
  pub below : k < 2 ^ m

-- bit i of the label of such an index
pub record BitInRange (m k i : ℕ) : Type 0 where
  pub few : m ≤ max_axis_bits
  pub below : k < 2 ^ m
  pub in_label : i < m

pub record AxisInRange (m g : ℕ) (y : ℤ) : Type 0 where
  pub some : 1 ≤ m
  pub few : m ≤ max_axis_bits
  pub gain : g ≤ max_gain
  pub sample : nat_abs y ≤ max_sample

pub record PhaseInRange (m g : ℕ) (y_i y_q : ℤ) : Type 0 where
  pub some : 1 ≤ m
  pub few : m ≤ max_phase_bits
  pub gain : g ≤ max_gain
  pub sample_i : nat_abs y_i ≤ max_sample
  pub sample_q : nat_abs y_q ≤ max_sample
