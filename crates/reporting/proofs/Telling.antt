-- One call of a report: its lines, and what it keeps. Assumes nothing.
use Prim.Native.Nat.{ℕ, ◌+◌, ◌*◌, ◌≤◌}
use native.Mathlib.Omega.{arith}
use mathlib.Core.Path.{◌≡◌, sym, ap, ap₂, ◌∙◌, subst}
use mathlib.Core.Bool.{Bool, true, false, ◌&&◌}
use mathlib.Core.List.{List, ◌++◌}
use borrow.Author.Tests.{le-ltb, eqb-true}
use lib.Dec.{eqb}
use lib.ListN.{length, take, drop}
use lib.Seq.{take-append_seam}
use Rattle.definition.specs.Types.{Dest}
use Rattle.definition.specs.Calls.{Result}
use Rattle.definition.specs.Queries.{is_queue}
use Rattle.definition.specs.Words.{at, kind_of}
use Rattle.definition.specs.Layout.{Row, Buffers, view, buffer_step}
use Rattle.definition.proofs.Tests.{by-test, if-true, if-false}
use Rattle.fates.specs.Blocks.{Block}
use Rattle.calls.specs.declared.Call.{Call}
use Rattle.callfile.specs.Lines.{event_rows_text}
use Rattle.callfile.specs.Placed.{Puts, PutLine}
use Rattle.callfile.proofs.Parts.{then, line-puts}
use Rattle.callfile.proofs.Texts.{events-text, rows_few}
use Rattle.engine.specs.Called.{Called}
use Rattle.report.specs.declared.Noted.{Noted}
use Rattle.report.specs.Report.{lists_short, noted_step, leaves_now, NotedCall}
use Rattle.reportlines.specs.declared.Ways.{Ways}
use Rattle.reportlines.specs.declared.Gone.{Gone}
use Rattle.reportlines.specs.ReportLines.{turn_line, brought_line, blocks_text, gone_after}
use Rattle.reportlines.proofs.Blocks.{turn-length, brought-length, blocks-few}
use Rattle.running.specs.Running.{accepted, outcome_of}
use Rattle.running.proofs.Ranges.{Fits}
use Rattle.running.proofs.Called.{as-told, leaves}
use Rattle.reporting.specs.declared.Kept.{Kept}
use Rattle.reporting.specs.Reporting.{Noting, held_of, ways_of, left_in, kept_after, noted, turn_text, noted_lines, noting_by, CallTold}

-- ---- the lines of a call

module _ (index code refusal : ℕ) (w w' : Ways) (ws : List ℕ) (on_queue : Bool) (events : List Row) (sent : ℕ) (left : List Block) (gone : ℕ) (same : w ≡ w') (few : sent ≤ 545) (fewer : gone ≤ 513)
    {at a b d r : ℕ} {out out₁ out₂ out₃ out₄ : List ℕ} (room : at + 135680 ≤ length out)
    (p : PutLine 256 (turn_line index code refusal w) at out a out₁)
    (p₂ : PutLine 256 (brought_line refusal code ws on_queue) a out₁ b out₂)
    (p₃ : PutLine (128 * sent) (event_rows_text (take sent events)) b out₂ d out₃)
    (p₄ : PutLine (128 + 64 * gone) (blocks_text (take gone left)) d out₃ r out₄)
  where
    one : Puts (turn_line index code refusal w) at out a out₁
    one = line-puts (omega (arith, room)) (omega (arith, turn-length index code refusal w)) p

    two : Puts (brought_line refusal code ws on_queue) a out₁ b out₂
    two = line-puts (omega (arith, room, one.next, one.same, turn-length index code refusal w)) (omega (arith, brought-length refusal code ws on_queue)) p₂

    three : Puts (event_rows_text (take sent events)) b out₂ d out₃
    three = line-puts (omega (arith, room, few, one.next, one.same, turn-length index code refusal w, two.next, two.same, brought-length refusal code ws on_queue)) (rows_few sent events) p₃

    four : Puts (blocks_text (take gone left)) d out₃ r out₄
    four = line-puts (omega (arith, room, few, fewer, one.next, one.same, turn-length index code refusal w, two.next, two.same, brought-length refusal code ws on_queue, three.next, three.same, rows_few sent events)) (omega (arith, blocks-few gone left)) p₄

    pub lines-put : Puts (turn_line index code refusal w' ++ (brought_line refusal code ws on_queue ++ (event_rows_text (take sent events) ++ blocks_text (take gone left)))) at out r out₄ × (r ≤ at + 102848)
    lines-put = (
      subst (λ (x : Ways). Puts (turn_line index code refusal x ++ (brought_line refusal code ws on_queue ++ (event_rows_text (take sent events) ++ blocks_text (take gone left)))) at out r out₄) same ((then) one ((then) two ((then) three four))),
      omega (arith, few, fewer, one.next, turn-length index code refusal w, two.next, brought-length refusal code ws on_queue, three.next, rows_few sent events, four.next, blocks-few gone left),
    )

-- ---- what a call leaves

pub lists-fit : (n held left : ℕ) → 512 ≤ held → 513 ≤ left → n ≤ 512 → lists_short n held left ≡ false
unfolding lists_short
lists-fit n held left h k m = rw (le-ltb held 512 h, le-ltb left 513 k, le-ltb 512 n m)

pub step_is : (b : Buffers) (events n held left : ℕ) (c : Call) → lists_short n held left ≡ false → noted_step b events n held left c ≡ buffer_step b events c.code c.words
unfolding noted_step
step_is b events n held left c e = if-false _ _ e

queue-kind : (w : ℕ) → eqb w 0 ≡ is_queue (kind_of w)
queue-kind w = by-test (eqb w 0) (λ e. rw e) (λ e. rw e)

pub queue-word : (b : Buffers) → eqb (at 0 b.head) 0 ≡ is_queue (view b).kind
unfolding view
queue-word b = queue-kind (at 0 b.head)

module _ (q : Result) (c : Call) (b b' : Buffers) (events events' : List Row) (held held' left left' : List Block) (k : Kept) (r : Noted)
    (n : NotedCall q c k.count b b' events events' held held' left left' r) (few : k.count ≤ 512)
  where
    abbrev s : Noting
    s = noting_by b events held k

    told : Called q b b' events events' (outcome_of q)
    told = as-told n.called

    pub sent-few : length q.events ≤ 545 → r.events ≤ 545
    sent-few h = omega (arith, h, n.called.count)

    gone-are : take r.left left' ≡ left_in c q s
    gone-are = by-test (accepted q)
        (λ e. ap₂ (λ (m : ℕ) (x : List Block). take m x) (n.left-count ∙ if-true _ _ e) (n.leaves ∙ if-true _ _ e) ∙ take-append_seam (leaves_now q c k.count held) (drop (length (leaves_now q c k.count held)) left) ∙ sym (if-true _ _ e))
        (λ e. ap (λ (m : ℕ). take m left') (n.left-count ∙ if-false _ _ e) ∙ sym (if-false _ _ e))

    held-are : take r.held held' ≡ held_of (noted c q s)
    unfolding noted
    held-are = ap₂ (λ (m : ℕ) (x : List Block). take m x) n.held-count n.holds

    pub still-few : r.held ≤ 512
    still-few = by-test (accepted q)
        (λ e. n.held-few (eqb-so e))
        (λ e. omega (arith, few, n.held-count ∙ if-false _ _ e))
      where
        eqb-so : accepted q ≡ true → q.refusal ≡ 0
        eqb-so e = eqb-true q.refusal 0 e

    module _ (gone : Gone) (anew : Bool) (begins : anew ≡ (eqb c.code 0 && eqb r.refusal 0)) (counts : gone ≡ gone_after anew (take r.left left') k.gone) where
      anew-so : anew ≡ (eqb c.code 0 && accepted q)
      anew-so = begins ∙ ap (λ (x : ℕ). eqb c.code 0 && eqb x 0) n.called.refusal

      keeps : ◌≡◌ {A = Kept} (record { count = r.held; gone = gone }) (kept_after c q s)
      keeps = λ j. record { count = n.held-count j; gone = (counts ∙ ap₂ (λ (x : Bool) (bs : List Block). gone_after x bs k.gone) anew-so gone-are) j }

      shows : noting_by b' events' held' (record { count = r.held; gone = gone }) ≡ noted c q s
      unfolding noted
      shows = λ j. record { lent = leaves told j; held = n.holds j; kept = keeps j }

      module _ (index : ℕ) (on_queue : Bool) (kind : on_queue ≡ is_queue (view b').kind) (fits : Fits q.events) {at next : ℕ} {out out' : List ℕ}
          (p : Puts (turn_text index c r.refusal on_queue (take r.held held') (take r.events events') (take r.left left')) at out next out' × (next ≤ at + 102848))
        where
          lines : turn_text index c r.refusal on_queue (take r.held held') (take r.events events') (take r.left left') ≡ noted_lines index c q s
          unfolding noted_lines
          lines = (λ j. turn_text index c (n.called.refusal j) ((kind ∙ ap (λ (t : Dest). is_queue t.kind) n.called.shows) j) (held-are j) (n.called.sent j) (gone-are j))
              ∙ ap (λ (t : List ℕ). turn_line index c.code q.refusal (ways_of (held_of (noted c q s))) ++ (brought_line q.refusal c.code c.words (is_queue q.dest.kind) ++ (t ++ blocks_text (left_in c q s)))) (events-text q.events fits)

          pub call-told : CallTold q index c b b' events events' held held' k at out out' (record { next = next; kept = record { count = r.held; gone = gone } })
          call-told = record {
            called = told;
            puts = subst (λ (t : List ℕ). Puts t at out next out') lines p.0;
            shows = shows;
            short = p.1;
            few = still-few;
            same = n.held-length;
          }

-- with lists that are long enough it is the call alone
pub noted_call : (b b' : Buffers) (events events' : List Row) (held held' left left' : List Block) (n : ℕ) (c : Call) (r : Noted) → 512 ≤ length held → 513 ≤ length left → n ≤ 512
    → NotedCall (noted_step b (length events) n (length held) (length left) c) c n b b' events events' held held' left left' r → NotedCall (buffer_step b (length events) c.code c.words) c n b b' events events' held held' left left' r
noted_call b b' events events' held held' left left' n c r h k m x =
    subst (λ (q : Result). NotedCall q c n b b' events events' held held' left left' r) (step_is b (length events) n (length held) (length left) c (lists-fit n (length held) (length left) h k m)) x
