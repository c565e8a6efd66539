-- The first lines of a call: its own, the other queues, what it brought, what was sent, and what became of its dead letters. Assumes nothing.
use Prim.Native.Nat.{ℕ, ◌+◌, ◌*◌, ◌≤◌}
use native.Mathlib.Omega.{arith}
use mathlib.Core.Path.{◌≡◌, subst}
use mathlib.Core.Bool.{Bool}
use mathlib.Core.List.{List, ◌++◌}
use lib.ListN.{length, take}
use Rattle.definition.specs.Layout.{Row}
use Rattle.definition_station.specs.Types.{slot_of}
use Rattle.callfile.specs.Placed.{Puts, PutLine}
use Rattle.callfile.proofs.Parts.{then, line-puts}
use Rattle.reportlines.specs.declared.Ways.{Ways}
use Rattle.reporting.specs.Reporting.{ways_of}
use Rattle.stationlines.specs.StationLines.{sent_words_line, sent_rows_text}
use Rattle.stationlines.proofs.Rows.{sent-length, rows_few}
use Rattle.stationreportlines.specs.StationReportLines.{station_turn_line, brought_line_on, told_line, told_text}
use Rattle.stationreportlines.proofs.Rows.{station-turn-length, brought-on-length, told-length}
use Rattle.stationrun.specs.StationRuns.{LentStation}
use Rattle.stationreport.specs.StationReporting.{places_text, holds_at, slot_is_queue, other_line, head_text}

module _ (index k code : ℕ) (ws : List ℕ) (refusal : ℕ) (w : Ways) {out : List ℕ} (room : 1740800 ≤ length out) {a : ℕ} {out₁ : List ℕ} (p₁ : PutLine 384 (station_turn_line index k code refusal w) 0 out a out₁) where
  own_put : Puts (station_turn_line index k code refusal w) 0 out a out₁
  own_put = line-puts (omega (arith, room)) (omega (arith, station-turn-length index k code refusal w)) p₁

  after-own : (a ≤ 256) × (length out₁ ≡ length out)
  after-own = (omega (arith, own_put.next, station-turn-length index k code refusal w), own_put.same)

  -- there is room for the other queues
  pub own_room : a + 1280 ≤ length out₁
  own_room = omega (arith, room, after-own.0, after-own.1)

  module _ (u : LentStation) (ways : w ≡ ways_of (holds_at k u)) (queue : Bool) (queued : queue ≡ slot_is_queue (slot_of k u.station)) (events told : List Row) (n m : ℕ) (few : n ≤ 4872) (fewer : m ≤ 512)
      {b c d r : ℕ} {out₂ out₃ out₄ out₅ : List ℕ}
      (p₂ : Puts (places_text (other_line k (take m told) u) 0 8) a out₁ b out₂ × (b ≤ a + 1024))
      (p₃ : PutLine 256 (brought_line_on k refusal code ws queue) b out₂ c out₃)
      (p₄ : PutLine (128 + 128 * n) (sent_rows_text (take n events)) c out₃ d out₄)
      (p₅ : PutLine (128 + 128 * m) (told_text k (take m told)) d out₄ r out₅)
    where
      after-others : (b ≤ 1280) × (length out₂ ≡ length out)
      after-others = (omega (arith, after-own.0, p₂.1), omega (arith, p₂.0.same, after-own.1))

      brought-put : Puts (brought_line_on k refusal code ws queue) b out₂ c out₃
      brought-put = line-puts (omega (arith, room, after-others.0, after-others.1)) (brought-on-length k refusal code ws queue) p₃

      after-brought : (c ≤ 1536) × (length out₃ ≡ length out)
      after-brought = (omega (arith, after-others.0, brought-put.next, brought-on-length k refusal code ws queue), omega (arith, brought-put.same, after-others.1))

      sent-put : Puts (sent_rows_text (take n events)) c out₃ d out₄
      sent-put = line-puts (omega (arith, room, few, after-brought.0, after-brought.1)) (omega (arith, rows_few sent_words_line sent-length n events)) p₄

      after-sent : (d ≤ 625152) × (length out₄ ≡ length out)
      after-sent = (omega (arith, few, after-brought.0, sent-put.next, rows_few sent_words_line sent-length n events), omega (arith, sent-put.same, after-brought.1))

      told-put : Puts (told_text k (take m told)) d out₄ r out₅
      told-put = line-puts (omega (arith, room, fewer, after-sent.0, after-sent.1)) (omega (arith, rows_few (told_line k) (told-length k) m told)) p₅

      pub first-put : Puts (head_text index k code ws refusal u (take n events) (take m told)) 0 out r out₅ × (r ≤ 690688)
      unfolding head_text
      first-put = (
        subst (λ (t : List ℕ). Puts t 0 out r out₅)
            (λ i. station_turn_line index k code refusal (ways i) ++ (places_text (other_line k (take m told) u) 0 8 ++ (brought_line_on k refusal code ws (queued i) ++ (sent_rows_text (take n events) ++ told_text k (take m told)))))
            (then own_put (then p₂.0 (then brought-put (then sent-put told-put)))),
        omega (arith, fewer, after-sent.0, told-put.next, rows_few (told_line k) (told-length k) m told),
      )
