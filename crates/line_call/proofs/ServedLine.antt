-- A line that passes its checks, and the frame that is parsed from it: its symbols alone can still refuse it; they are ready to be read where they do not;
-- and the text that answers it is its head and the payload's soft values. Assumes nothing.
use mathlib.Core.Path.{◌≡◌, ap, ◌∙◌}
use mathlib.Core.List.{List, ◌++◌}
use Prim.Native.Nat.{ℕ, ◌+◌, ◌≤◌, ◌<◌}
use native.Mathlib.Omega.{arith}
use lib.IntN.{pos}
use lib.ListN.{length, get_or, take, length-append}
use Rattle.arithmetic.specs.Lists.{joined, over}
use Rattle.arithmetic.proofs.Lists.{over_more, flat_map_cong}
use Rattle.hexadecimal.specs.Digits.{digits_of}
use Rattle.hexadecimal.specs.TwosComplement.{signed_digits, last_digits}
use Rattle.hexadecimal.proofs.Fields.{length_digits}
use Rattle.hexadecimal.proofs.Signs.{last_digits_lem}
use Rattle.constellation.specs.declared.Modulation.{Modulation}
use Rattle.constellation.specs.Schemes.{ModulationInRange, fraction_bits}
use Rattle.demapper.specs.Soft.{Scale, max_weight}
use Rattle.frame.specs.Verdicts.{Passed}
use Rattle.frame.specs.declared.Limits.{Limits}
use Rattle.frame.specs.Frame.{Frame, plain_kind, modulation, symbol_count, header_weights, parts_of_symbol, symbol_weight, frame_scale, symbol_softs, soft_values, probe_list}
use Rattle.frame.specs.Checks.{verdict_of}
use Rattle.frame.specs.FrameCall.{symbol_checks, header_checks}
use Rattle.frame.proofs.Checks.{ModulationAccepted}
use Rattle.frame.proofs.Order.{symbols_accepted, weights_below, weights_few}
use Rattle.frame.specs.Sent.{as_sent}
use Rattle.symbol_reading.specs.PartsRead.{SymbolInRange, softs_of, scale_at}
use Rattle.frame_symbols.specs.SymbolsRead.{symbol_at}
use Rattle.frame_symbols.proofs.SymbolsReady.{symbol_in}
use Rattle.line_text.specs.Answer.{accepted_text, frame_text}
use Rattle.line_text.specs.LineCall.{frame_symbol_checks}
use Rattle.line_text.specs.Within.{Servable}
use Rattle.line_text.proofs.AnswerText.{signed_texts, soft_representable}
use Rattle.line_text.proofs.LineChecks.{header_accepted}
use Rattle.line_payload.proofs.Payload.{last_texts}

-- a frame f with a gain for each symbol, and the weights of its kind
module _ (f : Frame) (counted : length f.gains ≡ symbol_count f) (weighed : length f.weights ≡ header_weights f.header) where
  softs_read : softs_of (modulation f) (scale_at (frame_scale f f.header.weight) f.weights) (symbol_at f.gains f.y_i f.y_q) (length f.gains)
      ≡ joined (symbol_softs f) (symbol_count f)
  unfolding symbol_softs symbol_weight parts_of_symbol
  softs_read = rw counted

  -- the verdict of its symbols
  pub by_symbols : verdict_of (joined (symbol_checks f.gains f.weights f.y_i f.y_q) (length f.gains)) ≡ verdict_of (frame_symbol_checks f)
  unfolding frame_symbol_checks
  by_symbols = rw counted

  -- where they pass, and the header does, within limits that are served
  module _ {limits : Limits} (served : Servable limits) (header : verdict_of (header_checks limits f.header) ≡ Passed) where
    known : ModulationAccepted limits (plain_kind f.header.kind) f.header.bits_i f.header.bits_q f.header.payload
    known = header_accepted limits f.header header

    pub ok : ModulationInRange (modulation f)
    ok = known.bits_ok

    pub payload_ready : {q : Modulation} → q ≡ modulation f → length f.y_i ≡ symbol_count f
        → verdict_of (frame_symbol_checks f) ≡ Passed
        → (length f.gains ≤ length f.y_i)
        × ((n : ℕ) → get_or f.weights n 0 ≤ max_weight)
        × ((n : ℕ) → n < length f.gains → SymbolInRange q (symbol_at f.gains f.y_i f.y_q n))
    unfolding frame_symbol_checks
    payload_ready is sampled passed =
        rw is (
          omega (arith, sampled, counted),
          weights_few f (weights_below f weighed) (λ n h. (symbols_accepted f passed n h).weight),
          (λ n h. let s = symbols_accepted f passed n (rw counted at h) in symbol_in (modulation f) _ ok s.gain s.sample),
        )

    -- what the code carries of its scale
    pub scale_is : {scale : Scale} {q : Modulation} → scale ≡ record { weight = f.header.weight; shift = f.header.shift + fraction_bits q; limit = f.header.limit } → q ≡ modulation f
        → scale ≡ frame_scale f f.header.weight
    scale_is e is = e ∙ ap (λ q. record { weight = f.header.weight; shift = f.header.shift + fraction_bits q; limit = f.header.limit }) is

    -- the last digits of its soft values are all of them
    softs_same : last_texts limits.digits (soft_values f) ≡ signed_texts limits.digits (soft_values f)
    softs_same =
        flat_map_cong (last_digits limits.digits) (signed_digits limits.digits) (soft_values f) (pos 0)
        (λ i h. last_digits_lem _ served.digits (soft_representable served f weighed header i h))

    -- the head, and the soft values behind it, are the text of the answer
    pub text_written : (lent : List ℕ) (at : ℕ) {one two : List ℕ} {count : ℕ} {q : Modulation} {scale : Scale} → q ≡ modulation f
        → scale ≡ frame_scale f f.header.weight → count ≡ length (probe_list f) → at + 6 ≤ length lent
        → one ≡ over lent at (digits_of 2 0 ++ digits_of 4 count)
        → two ≡ over one (at + 6) (last_texts limits.digits (take f.header.payload (as_sent q (pos 0) (softs_of q (scale_at scale f.weights) (symbol_at f.gains f.y_i f.y_q) (length f.gains)))))
        → two ≡ over lent at (frame_text limits f)
    unfolding frame_text accepted_text soft_values
    text_written lent at {count = count} is rounded n room o t =
        let head : List ℕ = digits_of 2 0 ++ digits_of 4 count in
        let six : length head ≡ 6 = simp (length-append, length_digits) in
        rw (← n, ← softs_same) (t ∙ rw (is, rounded, softs_read, o) (rw six at (over_more lent at head (last_texts limits.digits (soft_values f)) (rw six room))))
