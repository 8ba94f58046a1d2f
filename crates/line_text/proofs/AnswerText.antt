-- The text of an answer: its length, and that reading it gives back the count and the soft values, so that demand 3 holds of the text.
-- Assumes nothing.
use mathlib.Core.Path.{◌≡◌, refl, sym, ap, ◌∙◌}
use mathlib.Core.Logic.{◌⊎◌, inl, inr}
use mathlib.Core.Bool.{false}
use mathlib.Core.List.{List, [], ◌∷◌, ◌++◌, flat_map, append_assoc}
use Prim.Native.Nat.{ℕ, suc, ◌+◌, ◌*◌, ◌^◌, ◌≤◌, ◌<◌}
use native.Mathlib.Nat.{le_trans, zero-mul, suc-mul, mul-le-mul}
use native.Mathlib.Omega.{arith}
use lib.IntN.{ℤ, pos, negsuc, nat_abs, ◌-ℤ◌}
use lib.ListN.{length, get_or, take, drop, length-append, get_or-eq_default}
use lib.Seq.{split_at, length-take-le}
use Rattle.arithmetic.specs.Lists.{first}
use Rattle.arithmetic.proofs.Lists.{first_cong, first_get_or, flat_map-append}
use Rattle.hexadecimal.specs.Digits.{number_at, digits_of}
use Rattle.hexadecimal.specs.TwosComplement.{signed_at, signed_digits, Representable}
use Rattle.hexadecimal.proofs.Fields.{length_digits, printed_number}
use Rattle.hexadecimal.proofs.Signs.{printed_signed}
use Rattle.demapper.proofs.Soft.{soft_size}
use Rattle.frame.specs.declared.Limits.{Limits}
use Rattle.frame.specs.Limits.{full_limits}
use Rattle.frame.specs.Frame.{Frame, is_weighted, plain_kind, modulation, symbol_count, header_weights, symbol_weight, frame_scale, softened, soft_values, probe_list}
use Rattle.frame.specs.Checks.{verdict_of}
use Rattle.frame.specs.FrameCall.{header_checks, handed_out}
use Rattle.frame.specs.Verdicts.{Passed}
use Rattle.constellation.specs.Schemes.{ModulationInRange}
use Rattle.constellation.proofs.Schemes.{probes_few}
use Rattle.frame.proofs.Checks.{kept-checks, ModulationAccepted, modulation_accepted}
use Rattle.frame.proofs.Order.{one_weight}
use Rattle.frame.proofs.Demand3.{soft_length_lem, demand3_holds}
use Rattle.frame.proofs.Parts.{probe_count}
use Rattle.line_text.specs.Answer.{accepted_text, frame_text}
use Rattle.line_text.specs.Shown.{TextShows}
use Rattle.line_text.specs.Within.{Servable}
use Rattle.line_text.specs.declared.LineLimits.{LineLimits}
use Rattle.digit_writing.specs.declared.Width.{Width}
use Rattle.digit_writing.specs.declared.Width.TheVariants.{Two, Four}
use Rattle.digit_writing.specs.Width.{digits_in}

-- the digits of signed numbers, d each, one after the other
abbrev pub signed_texts : ℕ → List ℤ → List ℕ
signed_texts d soft = flat_map (signed_digits d) soft

module _ (d : ℕ) where
  pub length-signed_texts : (soft : List ℤ) → length (signed_texts d soft) ≡ length soft * d
  unfolding flat_map signed_digits
  length-signed_texts [] = sym (zero-mul d)
  length-signed_texts (z ∷ soft) = simp (length-append, length_digits, length-signed_texts soft, suc-mul) (omega arith)

  accepted_text_length : (count : ℕ) (soft : List ℤ) → length (accepted_text d count soft) ≡ 6 + length soft * d
  unfolding accepted_text
  accepted_text_length count soft = simp (length-append, length_digits, length-signed_texts) (omega arith)

  -- an accepted text is read back
  read_status : (count : ℕ) (soft : List ℤ) → number_at (accepted_text d count soft) 0 2 ≡ 0
  unfolding accepted_text
  read_status count soft = rw append_assoc (printed_number [] (digits_of 4 count ++ signed_texts d soft) 2 0 (omega arith))

  pub read_count : (count : ℕ) (soft : List ℤ) → count < 16 ^ 4 → number_at (accepted_text d count soft) 2 4 ≡ count
  unfolding accepted_text
  read_count count soft h = rw (length_digits 2 0) at (printed_number (digits_of 2 0) (signed_texts d soft) 4 count h)

  -- the text of soft values, cut at one of them
  signed_texts_split : (soft : List ℤ) (i : ℕ) → i < length soft
      → signed_texts d soft ≡ signed_texts d (take i soft) ++ signed_digits d (get_or soft i (pos 0)) ++ signed_texts d (drop (suc i) soft)
  unfolding flat_map
  signed_texts_split soft i h =
      ap (signed_texts d) (split_at soft i (pos 0) h)
      ∙ flat_map-append (signed_digits d) (take i soft) (get_or soft i (pos 0) ∷ drop (suc i) soft)
      ∙ sym (append_assoc (signed_texts d (take i soft)) (signed_digits d (get_or soft i (pos 0))) (signed_texts d (drop (suc i) soft)))

  read_soft_at : (count : ℕ) (soft : List ℤ) (i : ℕ) → i < length soft → Representable d (get_or soft i (pos 0))
      → signed_at (accepted_text d count soft) (6 + i * d) d ≡ get_or soft i (pos 0)
  unfolding accepted_text
  read_soft_at count soft i h fits =
      let z : ℤ = get_or soft i (pos 0) in
      let before : List ℕ = digits_of 2 0 ++ digits_of 4 count ++ signed_texts d (take i soft) in
      let after : List ℕ = signed_texts d (drop (suc i) soft) in
      let some : length (take i soft) ≡ i = length-take-le i soft (omega arith) in
      let place : length before ≡ 6 + i * d = simp (length-append, length_digits, length-signed_texts, some) (omega arith) in
      let cut : accepted_text d count soft ≡ before ++ signed_digits d z ++ after = rw (signed_texts_split soft i h) (simp append_assoc) in
      rw (cut, ← place) (printed_signed before after d z fits)

  pub read_soft : (count : ℕ) (soft : List ℤ) → ((i : ℕ) → i < length soft → Representable d (get_or soft i (pos 0)))
      → first (λ i. signed_at (accepted_text d count soft) (6 + i * d) d) (length soft) ≡ soft
  read_soft count soft h =
      first_cong _ (λ i. get_or soft i (pos 0)) (length soft) (λ i l. read_soft_at count soft i l (h i l)) ∙ first_get_or soft (pos 0)

-- a number below half of 16^n in size has room in n digits
pub size_representable : (n : ℕ) (z : ℤ) → 2 * nat_abs z < 16 ^ n → Representable n z
unfolding Representable
size_representable n (pos v) h = h
size_representable n (negsuc v) h = omega arith

softened-size : (f : Frame) (w : ℕ) (N : ℤ) → nat_abs (softened f w N) ≤ f.header.limit
unfolding softened
softened-size f w N = soft_size w (frame_scale f w).shift f.header.limit N

pub frame_text_length : (limits : Limits) (f : Frame) → ModulationInRange (modulation f)
    → length (frame_text limits f) ≡ 6 + f.header.payload * limits.digits
unfolding frame_text
frame_text_length limits f ok = rw (accepted_text_length, soft_length_lem f ok)

-- ---- limits that the line call can serve

-- those of the requirements are
pub full_servable : Servable full_limits
full_servable = record { symbols = omega arith; soft = omega arith; digits = inr refl; fits = omega arith }

-- and those by which lines are served are
pub line_servable : (served : LineLimits) → Servable served.limits
line_servable served =
    record { symbols = served.symbols; soft = served.soft; digits = go served.width served.digits; fits = served.fits }
  where
    go : (width : Width) → digits_in width ≡ served.limits.digits → (served.limits.digits ≡ 2) ⊎ (served.limits.digits ≡ 4)
    go Two e = inl (sym e)
    go Four e = inr (sym e)

module _ {limits : Limits} (served : Servable limits) where
  -- what is known of a header that passes its checks
  header_known : (f : Frame) → verdict_of (header_checks limits f.header) ≡ Passed
      → ModulationAccepted limits (plain_kind f.header.kind) f.header.bits_i f.header.bits_q f.header.payload
      × (f.header.limit ≤ limits.soft)
  unfolding header_checks
  header_known f e =
      let (shared, (w, (s, (t, end)))) = simp kept-checks at e in
      (modulation_accepted limits _ _ _ _ shared, t.1)

  -- the soft values of a frame whose header passes its checks, and which has the weights of its kind, have room in their digits
  pub soft_representable : (f : Frame) → length f.weights ≡ header_weights f.header → verdict_of (header_checks limits f.header) ≡ Passed
      → (i : ℕ) → i < length (soft_values f) → Representable limits.digits (get_or (soft_values f) i (pos 0))
  unfolding handed_out
  soft_representable f counted e i h =
      let (m, limit) = header_known f e in
      let ok : ModulationInRange (modulation f) = m.bits_ok in
      let shown = (demand3_holds f ok (one_weight f counted)).weighted.each_bit i (rw (soft_length_lem f ok) at h) in
      rw shown.soft (size_representable limits.digits _ (omega (arith, served.fits, limit, softened-size f 1 (shown.one -ℤ shown.zero))))

  -- its probes are so few that their number has room in 4 digits
  pub count_fits : (f : Frame) → ModulationAccepted limits (plain_kind f.header.kind) f.header.bits_i f.header.bits_q f.header.payload
      → length (probe_list f) < 16 ^ 4
  unfolding symbol_count
  count_fits f m =
      rw (probe_count f) (omega (arith, served.symbols, mul-le-mul (le_trans m.symbols_few served.symbols) (probes_few (modulation f) m.bits_ok)))

  pub text_shows : (f : Frame) → length f.weights ≡ header_weights f.header → verdict_of (header_checks limits f.header) ≡ Passed
      → TextShows limits f (frame_text limits f)
  unfolding frame_text handed_out
  text_shows f counted e =
      let m = (header_known f e).0 in
      let ok : ModulationInRange (modulation f) = m.bits_ok in
      let count : ℕ = length (probe_list f) in
      let d = limits.digits in
      record {
        status = read_status d count (soft_values f);
        lists = handed_out f;
        soft = sym (rw (soft_length_lem f ok) at (read_soft d count (soft_values f) (soft_representable f counted e)));
        shown = rw (read_count d count (soft_values f) (count_fits f m)) (demand3_holds f ok (one_weight f counted));
      }
