-- The order of checks decides (demand 1): each frame is served or refused; it is served exactly where it breaks no limit; a refusal is given
-- only where its condition holds, with the symbol's number, and leaves every lent buffer as it was. The same for mapping. Assumes nothing.
use Rattle.std.specs.Prelude.{Err}
use mathlib.Core.Path.{◌≡◌, refl, sym, ◌∙◌, subst, subst⁻¹, subst₂}
use mathlib.Core.Logic.{◌⊎◌, inl, inr, ⊎_map}
use mathlib.Core.Bool.{Bool, true, false, not, cond, true≢false}
use mathlib.Core.List.{List, [], ◌∷◌, ◌++◌}
use mathlib.Core.List.{Memᴰ}
use Prim.Native.Nat.{ℕ, zero, suc, ◌≤◌, ◌<◌}
use native.Mathlib.Decide.{dec_lt}
use native.Mathlib.Omega.{arith}
use Rattle.std.proofs.lemmas.List.{get_or_default}
use borrow.Author.Tests.{ltb-true, eqb-true, not-true}
use lib.Dec.{T, ltb, eqb, ltb→lt, lt→ltb}
use lib.IntN.{ℤ, pos, nat_abs}
use lib.ListN.{length, get_or, get_or-eq_default}
use Rattle.arithmetic.specs.Lists.{joined}
use Rattle.arithmetic.specs.Tests.{all_below}
use Rattle.arithmetic.proofs.Tests.{all_below_at, all_below_lem, or_true, tests-false}
use Rattle.constellation.specs.Gray.{AllBits}
use Rattle.constellation.specs.Schemes.{bits_per_symbol}
use Rattle.frame.specs.declared.Refusal.{Refusal}
use Rattle.frame.specs.declared.Refusal.TheVariants.{Kind, BitsPerSymbol, Payload, Weight, Shift, Limit, Gain, Sample, OutputTooShort, InputLength, BitByte, HeaderWeight}
use Rattle.constellation.specs.Ranges.{max_gain, max_sample}
use Rattle.demapper.specs.Soft.{max_weight, max_shift}
use Rattle.demapper.specs.Reading.{Buffers}
use Rattle.frame.specs.declared.Limits.{Limits}
use Rattle.frame.specs.declared.Header.{Header}
use Rattle.frame.specs.Frame.{Frame, is_weighted, plain_kind, symbol_count, header_weights, symbol_weight, symbols_for, modulation_of}
use Rattle.frame.specs.Checks.{max_kind, Check, check, verdict_of, outside, bits_outside, modulation_checks}
use Rattle.frame.specs.Verdicts.{Verdict, Passed, Failed}
use Rattle.frame.specs.FrameCall.{room_in, weight_check, weight_check_by, symbol_checks, input_lengths_differ, outputs_too_short, header_checks, input_checks, frame_checks, frame_verdict, buffers_for, buffers_after}
use Rattle.frame.specs.Mapping.{Message, mapped_i, mapped_q, map_checks, map_verdict}
use Rattle.frame.proofs.Checks.{FirstBroken, verdict_refused, joined_accepted, kept-checks, ModulationAccepted, modulation_accepted}

-- ---- any list of checks

-- one that refuses nothing accepts
none_accepted : {Fault : Refusal → ℕ → Type 0} (v : Verdict) → ((r : Refusal) (n : ℕ) → v ≡ Failed r n → Fault r n)
    → ((r : Refusal) (n : ℕ) → Fault r n → ⊥) → v ≡ Passed
none_accepted Passed is no-fault = refl
none_accepted (Err fault) is no-fault = absurd (no-fault fault.refusal fault.symbol (is fault.refusal fault.symbol refl))

-- each check of the list, where it is broken, is a fault
data Each (Fault : Refusal → ℕ → Type 0) : List Check → Type 0 where
  none : Each Fault []
  more : {c : Check} {cs : List Check} → (c.broken ≡ true → Fault c.refusal c.symbol) → Each Fault cs → Each Fault (c ∷ cs)

module _ {Fault : Refusal → ℕ → Type 0} where
  each_append : {cs ds : List Check} → Each Fault cs → Each Fault ds → Each Fault (cs ++ ds)
  each_append none e = e
  each_append (more c d) e = more c (each_append d e)

  each_joined : (f : ℕ → List Check) (n : ℕ) → ((i : ℕ) → i < n → Each Fault (f i)) → Each Fault (joined f n)
  unfolding joined
  each_joined f zero all = none
  each_joined f (suc n) all = each_append (each_joined f n (λ i h. all i (omega arith))) (all n (omega arith))

  each_of : {cs : List Check} → Each Fault cs → (c : Check) → Memᴰ c cs → c.broken ≡ true → Fault c.refusal c.symbol
  each_of none c m = absurd (mathlib.Core.List.Memᴰ.not-nil m)
  each_of (more h e) c (mathlib.Core.List.Memᴰ.head s) = rw s h
  each_of (more h e) c (mathlib.Core.List.Memᴰ.tail m) = each_of e c m

  -- so a refusal is a fault
  each_refused : {cs : List Check} {r : Refusal} {n : ℕ} → Each Fault cs → verdict_of cs ≡ Failed r n → Fault r n
  each_refused {cs} {r} {n} e v =
      let b : FirstBroken cs r n = verdict_refused cs r n v in
      let member : Memᴰ b.broken cs = subst⁻¹ (λ (l : List Check). Memᴰ b.broken l) b.split (mathlib.Core.List.Memᴰ.append_right b.before (mathlib.Core.List.Memᴰ.head refl)) in
      subst₂ Fault b.refusal b.symbol (each_of e b.broken member b.fails)

-- ---- what frames and mapping share

-- the conditions of 4, 5 and 6
pub data ModulationFault (limits : Limits) (kind m_i m_q payload : ℕ) : Refusal → ℕ → Type 0 where
  kind_unknown : max_kind < kind → ModulationFault limits kind m_i m_q payload Kind 0
  bits_out : bits_outside kind m_i m_q ≡ true → ModulationFault limits kind m_i m_q payload BitsPerSymbol 0
  payload_out : (payload ≡ 0) ⊎ (limits.symbols < symbols_for (bits_per_symbol (modulation_of kind m_i m_q)) payload)
      → ModulationFault limits kind m_i m_q payload Payload 0

outside-true : (low high n : ℕ) → outside low high n ≡ true → (n < low) ⊎ (high < n)
outside-true low high n e = ⊎_map (ltb-true n low) (ltb-true high n) (or_true (ltb n low) (ltb high n) e)

each_modulation : (limits : Limits) (kind m_i m_q payload : ℕ) {Fault : Refusal → ℕ → Type 0}
    → ((r : Refusal) (n : ℕ) → ModulationFault limits kind m_i m_q payload r n → Fault r n) → Each Fault (modulation_checks limits kind m_i m_q payload)
unfolding modulation_checks
each_modulation limits kind m_i m_q payload is =
    more (λ t. is Kind 0 (kind_unknown (ltb-true max_kind kind t)))
    (more (λ t. is BitsPerSymbol 0 (bits_out t))
    (more (λ t. is Payload 0 (payload_out (⊎_map (eqb-true payload 0) (ltb-true _ _) (or_true _ _ t)))) none))

-- ---- frames

-- the refusals of a frame with their conditions: the frame call gives no other number, and a symbol's number only with 10, 7 and 11
pub data FrameFault (limits : Limits) (f : Frame) (lent : Buffers) : Refusal → ℕ → Type 0 where
  modulation_out : (r : Refusal) (n : ℕ)
      → ModulationFault limits (plain_kind f.header.kind) f.header.bits_i f.header.bits_q f.header.payload r n → FrameFault limits f lent r n
  weight_out : is_weighted f.header.kind ≡ false → (f.header.weight < 1) ⊎ (max_weight < f.header.weight) → FrameFault limits f lent Weight 0
  header_weight_some : is_weighted f.header.kind ≡ true → (f.header.weight ≡ 0 → ⊥) → FrameFault limits f lent HeaderWeight 0
  shift_out : max_shift < f.header.shift → FrameFault limits f lent Shift 0
  limit_out : (f.header.limit < 1) ⊎ (limits.soft < f.header.limit) → FrameFault limits f lent Limit 0
  inputs_differ : input_lengths_differ f ≡ true → FrameFault limits f lent InputLength 0
  outputs_short : outputs_too_short f (room_in lent) ≡ true → FrameFault limits f lent OutputTooShort 0
  gain_out : (n : ℕ) → n < symbol_count f → max_gain < get_or f.gains n 0 → FrameFault limits f lent Gain n
  symbol_weight_out : (n : ℕ) → n < symbol_count f → (get_or f.weights n 1 < 1) ⊎ (max_weight < get_or f.weights n 1) → FrameFault limits f lent Weight n
  sample_out : (n : ℕ) → n < symbol_count f → (max_sample < nat_abs (get_or f.y_i n (pos 0))) ⊎ (max_sample < nat_abs (get_or f.y_q n (pos 0)))
      → FrameFault limits f lent Sample n

each_symbol : (limits : Limits) (f : Frame) (lent : Buffers) (n : ℕ) → n < symbol_count f → Each (FrameFault limits f lent) (symbol_checks f.gains f.weights f.y_i f.y_q n)
unfolding symbol_checks
each_symbol limits f lent n h =
    more (λ t. gain_out n h (ltb-true max_gain _ t))
    (more (λ t. symbol_weight_out n h (outside-true 1 max_weight _ t)) (more (λ t. sample_out n h (⊎_map (ltb-true max_sample _) (ltb-true max_sample _) (or_true _ _ t))) none))

each_weight : (limits : Limits) (f : Frame) (lent : Buffers) → (weight_check f.header).broken ≡ true
    → FrameFault limits f lent (weight_check f.header).refusal (weight_check f.header).symbol
unfolding weight_check weight_check_by
each_weight limits f lent = go (is_weighted f.header.kind) refl
  where
    go : (b : Bool) → is_weighted f.header.kind ≡ b → (weight_check_by b f.header.weight).broken ≡ true
        → FrameFault limits f lent (weight_check_by b f.header.weight).refusal (weight_check_by b f.header.weight).symbol
    go true e t = header_weight_some e (λ z. true≢false (sym (rw z at t)))
    go false e t = weight_out e (outside-true 1 max_weight f.header.weight t)

each_frame : (limits : Limits) (f : Frame) (lent : Buffers) → Each (FrameFault limits f lent) (frame_checks limits f (room_in lent))
unfolding frame_checks header_checks input_checks
each_frame limits f lent =
    each_append
    (each_append (each_modulation limits _ _ _ _ modulation_out)
    (more (each_weight limits f lent)
    (more (λ t. shift_out (ltb-true max_shift _ t))
    (more (λ t. limit_out (outside-true 1 limits.soft f.header.limit t)) none))))
    (more inputs_differ (more outputs_short (each_joined (symbol_checks f.gains f.weights f.y_i f.y_q) (symbol_count f) (each_symbol limits f lent))))

-- a refusal only where its condition holds
pub frame_refused : {limits : Limits} {f : Frame} {lent : Buffers} {r : Refusal} {n : ℕ} → frame_verdict limits f lent ≡ Failed r n
    → FrameFault limits f lent r n
unfolding frame_verdict
frame_refused {limits} {f} {lent} e = each_refused (each_frame limits f lent) e

-- the header's weight is in its range where it is one for all symbols, and 0 where each symbol has its own
pub record HeaderWeightIn (h : Header) : Type 0 where
  pub one_for_all : is_weighted h.kind ≡ false → (1 ≤ h.weight) × (h.weight ≤ max_weight)
  pub none : is_weighted h.kind ≡ true → h.weight ≡ 0

pub weight_kept : (h : Header) → (weight_check h).broken ≡ false → HeaderWeightIn h
unfolding weight_check weight_check_by
weight_kept h = go (is_weighted h.kind) refl
  where
    go : (b : Bool) → is_weighted h.kind ≡ b → (weight_check_by b h.weight).broken ≡ false → HeaderWeightIn h
    go true e t = record { one_for_all = λ d. absurd (true≢false (sym e ∙ d)); none = λ d. simp tests-false at t }
    go false e t = record { one_for_all = λ d. simp tests-false at t; none = λ d. absurd (true≢false (sym d ∙ e)) }

-- so it is no larger than any weight
pub header_weight_few : {h : Header} → HeaderWeightIn h → h.weight ≤ max_weight
header_weight_few {h} w = go (is_weighted h.kind) refl
  where
    go : (b : Bool) → is_weighted h.kind ≡ b → h.weight ≤ max_weight
    go true e = omega (arith, w.none e)
    go false e = (w.one_for_all e).1

-- what is known of a frame that is accepted
pub record FrameAccepted (limits : Limits) (f : Frame) (lent : Buffers) : Type 0 where
  pub modulation_in : ModulationAccepted limits (plain_kind f.header.kind) f.header.bits_i f.header.bits_q f.header.payload
  pub weight_in : HeaderWeightIn f.header
  pub shift_in : f.header.shift ≤ max_shift
  pub limit_in : (1 ≤ f.header.limit) × (f.header.limit ≤ limits.soft)
  pub inputs_same : input_lengths_differ f ≡ false
  pub outputs_long : outputs_too_short f (room_in lent) ≡ false
  pub gain_in : (n : ℕ) → n < symbol_count f → get_or f.gains n 0 ≤ max_gain
  pub symbol_weight_in : (n : ℕ) → n < symbol_count f → (1 ≤ get_or f.weights n 1) × (get_or f.weights n 1 ≤ max_weight)
  pub sample_in : (n : ℕ) → n < symbol_count f → (nat_abs (get_or f.y_i n (pos 0)) ≤ max_sample) × (nat_abs (get_or f.y_q n (pos 0)) ≤ max_sample)

-- the gain, the weight and the sample of a symbol that passes its checks
pub record SymbolAccepted (f : Frame) (n : ℕ) : Type 0 where
  pub gain : get_or f.gains n 0 ≤ max_gain
  pub weight : (1 ≤ get_or f.weights n 1) × (get_or f.weights n 1 ≤ max_weight)
  pub sample : (nat_abs (get_or f.y_i n (pos 0)) ≤ max_sample) × (nat_abs (get_or f.y_q n (pos 0)) ≤ max_sample)

symbol_accepted : (f : Frame) (n : ℕ) → verdict_of (symbol_checks f.gains f.weights f.y_i f.y_q n) ≡ Passed → SymbolAccepted f n
unfolding symbol_checks
symbol_accepted f n e = let (g, (w, (y, end))) = simp kept-checks at e in record { gain = g; weight = w; sample = y }

pub symbols_accepted : (f : Frame) → verdict_of (joined (symbol_checks f.gains f.weights f.y_i f.y_q) (symbol_count f)) ≡ Passed → (n : ℕ) → n < symbol_count f
    → SymbolAccepted f n
symbols_accepted f e n h = symbol_accepted f n (joined_accepted (symbol_checks f.gains f.weights f.y_i f.y_q) (symbol_count f) e n h)

pub frame_accepted : {limits : Limits} {f : Frame} {lent : Buffers} → frame_verdict limits f lent ≡ Passed → FrameAccepted limits f lent
unfolding frame_verdict frame_checks header_checks input_checks
frame_accepted {limits} {f} {lent} e =
    let ((shared, (w, (s, (t, end)))), (i, (o, symbols))) = simp kept-checks at e in
    record {
      modulation_in = modulation_accepted limits _ _ _ _ shared;
      weight_in = weight_kept f.header w;
      shift_in = s;
      limit_in = t;
      inputs_same = i;
      outputs_long = o;
      gain_in = λ n h. (symbols_accepted f symbols n h).gain;
      symbol_weight_in = λ n h. (symbols_accepted f symbols n h).weight;
      sample_in = λ n h. (symbols_accepted f symbols n h).sample;
    }

-- the weights that it has: as many as its kind has
pub weights_counted : {limits : Limits} {f : Frame} {lent : Buffers} → FrameAccepted limits f lent → length f.weights ≡ header_weights f.header
unfolding input_lengths_differ
weights_counted a = (simp tests-false at a.inputs_same).0.0.1

-- which are no more than it has symbols
pub weights_below : (f : Frame) → length f.weights ≡ header_weights f.header → length f.weights ≤ symbol_count f
unfolding header_weights symbol_count
weights_below f = go (is_weighted f.header.kind)
  where
    go : (b : Bool) → length f.weights ≡ cond b (symbol_count f) 0 → length f.weights ≤ symbol_count f
    go true e = omega arith
    go false e = omega arith

-- a weight of a frame whose symbols' weights are in their range is small enough to be carried, and so is what stands for one behind the last
pub weights_few : (f : Frame) → length f.weights ≤ symbol_count f
    → ((n : ℕ) → n < symbol_count f → (1 ≤ get_or f.weights n 1) × (get_or f.weights n 1 ≤ max_weight)) → (n : ℕ) → get_or f.weights n 0 ≤ max_weight
weights_few f below each n = go (dec_lt n (length f.weights))
  where
    go : Dec (n < length f.weights) → get_or f.weights n 0 ≤ max_weight
    go (yes h) = omega (arith, each n (omega arith), get_or_default f.weights n 1 0 h)
    go (no h) = rw (get_or-eq_default f.weights 0 {n = n} (omega arith)) (omega arith)

-- so a plain frame has one weight for all symbols
pub one_weight : (f : Frame) → length f.weights ≡ header_weights f.header → is_weighted f.header.kind ≡ false → (n : ℕ) → symbol_weight f n ≡ f.header.weight
unfolding header_weights symbol_weight
one_weight f counted e n = get_or-eq_default f.weights f.header.weight (rw (counted, e) (omega arith))

modulation_faultless : {limits : Limits} {kind m_i m_q payload : ℕ} {r : Refusal} {n : ℕ} → ModulationAccepted limits kind m_i m_q payload
    → ModulationFault limits kind m_i m_q payload r n → ⊥
modulation_faultless a (kind_unknown h) = omega (arith, a.kind_known)
modulation_faultless a (bits_out h) = true≢false (sym h ∙ a.bits_in)
modulation_faultless a (payload_out (inl h)) = a.payload_some h
modulation_faultless a (payload_out (inr h)) = omega (arith, a.symbols_few)

-- served only where none of the conditions holds
pub frame_faultless : {limits : Limits} {f : Frame} {lent : Buffers} {r : Refusal} {n : ℕ} → FrameAccepted limits f lent
    → FrameFault limits f lent r n → ⊥
frame_faultless a (modulation_out r n h) = modulation_faultless a.modulation_in h
frame_faultless a (weight_out e (inl h)) = omega (arith, a.weight_in.one_for_all e)
frame_faultless a (weight_out e (inr h)) = omega (arith, a.weight_in.one_for_all e)
frame_faultless a (header_weight_some e h) = h (a.weight_in.none e)
frame_faultless a (shift_out h) = omega (arith, a.shift_in)
frame_faultless a (limit_out (inl h)) = omega (arith, a.limit_in)
frame_faultless a (limit_out (inr h)) = omega (arith, a.limit_in)
frame_faultless a (inputs_differ h) = true≢false (sym h ∙ a.inputs_same)
frame_faultless a (outputs_short h) = true≢false (sym h ∙ a.outputs_long)
frame_faultless a (gain_out n l h) = omega (arith, a.gain_in n l)
frame_faultless a (symbol_weight_out n l (inl h)) = omega (arith, a.symbol_weight_in n l)
frame_faultless a (symbol_weight_out n l (inr h)) = omega (arith, a.symbol_weight_in n l)
frame_faultless a (sample_out n l (inl h)) = omega (arith, a.sample_in n l)
frame_faultless a (sample_out n l (inr h)) = omega (arith, a.sample_in n l)

-- and served where none holds
pub frame_served : (limits : Limits) (f : Frame) (lent : Buffers) → ((r : Refusal) (n : ℕ) → FrameFault limits f lent r n → ⊥)
    → frame_verdict limits f lent ≡ Passed
frame_served limits f lent no-fault = none_accepted (frame_verdict limits f lent) (λ r n e. frame_refused e) no-fault

-- each frame is one of the two: accepted with all of this known, or refused by the first check that it breaks
pub frame_decided : (limits : Limits) (f : Frame) (lent : Buffers)
    → FrameAccepted limits f lent ⊎ ((r : Refusal) × (n : ℕ) × FirstBroken (frame_checks limits f (room_in lent)) r n × FrameFault limits f lent r n)
unfolding frame_verdict
frame_decided limits f lent = go (frame_verdict limits f lent) refl
  where
    go : (v : Verdict) → frame_verdict limits f lent ≡ v
        → FrameAccepted limits f lent ⊎ ((r : Refusal) × (n : ℕ) × FirstBroken (frame_checks limits f (room_in lent)) r n × FrameFault limits f lent r n)
    go Passed e = inl (frame_accepted e)
    go (Err fault) e = inr (fault.refusal, fault.symbol, verdict_refused (frame_checks limits f (room_in lent)) fault.refusal fault.symbol e, frame_refused e)

-- a refusal leaves every lent buffer as it was
pub frame_refused_keeps : (limits : Limits) (f : Frame) (lent : Buffers) (r : Refusal) (n : ℕ) → frame_verdict limits f lent ≡ Failed r n
    → buffers_after limits f lent ≡ lent
unfolding buffers_after buffers_for
frame_refused_keeps limits f lent r n e = rw e

-- ---- mapping

pub data MessageFault (limits : Limits) (m : Message) (lent_i lent_q : List ℤ) : Refusal → ℕ → Type 0 where
  modulation_out : (r : Refusal) (n : ℕ) → ModulationFault limits m.kind m.bits_i m.bits_q (length m.bits) r n
      → MessageFault limits m lent_i lent_q r n
  gain_out : max_gain < m.gain → MessageFault limits m lent_i lent_q Gain 0
  bit_out : all_below (length m.bits) (λ i. ltb (get_or m.bits i 0) 2) ≡ false → MessageFault limits m lent_i lent_q BitByte 0
  outputs_short : (length lent_i < length (mapped_i m)) ⊎ (length lent_q < length (mapped_q m)) → MessageFault limits m lent_i lent_q OutputTooShort 0

pub message_refused : {limits : Limits} {m : Message} {lent_i lent_q : List ℤ} {r : Refusal} {n : ℕ} → map_verdict limits m lent_i lent_q ≡ Failed r n
    → MessageFault limits m lent_i lent_q r n
unfolding map_verdict map_checks
message_refused {limits} {m} {lent_i} {lent_q} e =
    each_refused {Fault = MessageFault limits m lent_i lent_q}
    (each_append (each_modulation limits _ _ _ _ modulation_out)
    (more (λ t. gain_out (ltb-true max_gain _ t)) (more (λ t. bit_out (not-true _ t)) (more (λ t. outputs_short (⊎_map (ltb-true _ _) (ltb-true _ _) (or_true _ _ t))) none))))
    e

-- what is known of a message that is accepted
pub record MessageAccepted (limits : Limits) (m : Message) (lent_i lent_q : List ℤ) : Type 0 where
  -- the checks that a frame has too
  pub shared : verdict_of (modulation_checks limits m.kind m.bits_i m.bits_q (length m.bits)) ≡ Passed
  pub modulation : ModulationAccepted limits m.kind m.bits_i m.bits_q (length m.bits)
  pub gain : m.gain ≤ max_gain
  pub bits : AllBits m.bits
  pub fits_i : length (mapped_i m) ≤ length lent_i
  pub fits_q : length (mapped_q m) ≤ length lent_q

pub message_accepted : (limits : Limits) (m : Message) (lent_i lent_q : List ℤ) → map_verdict limits m lent_i lent_q ≡ Passed
    → MessageAccepted limits m lent_i lent_q
unfolding map_verdict map_checks
message_accepted limits m lent_i lent_q e =
    let (shared, (g, (b, ((i, q), end)))) = simp kept-checks at e in
    record {
      shared = shared;
      modulation = modulation_accepted limits m.kind m.bits_i m.bits_q (length m.bits) shared;
      gain = g;
      bits = record { bit = λ j h. ltb→lt _ _ (all_below_at (length m.bits) (λ i. ltb (get_or m.bits i 0) 2) (rw b tt) j h) };
      fits_i = i;
      fits_q = q;
    }

-- served only where none of the conditions holds
pub message_faultless : {limits : Limits} {m : Message} {lent_i lent_q : List ℤ} {r : Refusal} {n : ℕ} → MessageAccepted limits m lent_i lent_q
    → MessageFault limits m lent_i lent_q r n → ⊥
message_faultless a (modulation_out r n h) = modulation_faultless a.modulation h
message_faultless a (gain_out h) = omega (arith, a.gain)
message_faultless {m} a (bit_out h) =
    subst T h (all_below_lem (length m.bits) (λ i. ltb (get_or m.bits i 0) 2) (λ i l. lt→ltb _ _ (a.bits.bit i l)))
message_faultless a (outputs_short (inl h)) = omega (arith, a.fits_i)
message_faultless a (outputs_short (inr h)) = omega (arith, a.fits_q)

-- and served where none holds
pub message_served : (limits : Limits) (m : Message) (lent_i lent_q : List ℤ) → ((r : Refusal) (n : ℕ) → MessageFault limits m lent_i lent_q r n → ⊥)
    → map_verdict limits m lent_i lent_q ≡ Passed
message_served limits m lent_i lent_q no-fault = none_accepted (map_verdict limits m lent_i lent_q) (λ r n e. message_refused e) no-fault
