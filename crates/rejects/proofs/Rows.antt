-- The rows that are dead letters are the entries that the definition rejects. Assumes nothing.
use Rattle.std.specs.Prelude.{Some, None}
use mathlib.Core.Path.{◌≡◌, refl, sym, ap, ap₂, ◌∙◌, subst}
use mathlib.Core.Bool.{Bool, true, false, not, ◌&&◌, and-true, and-false}
use mathlib.Core.List.{List, [], map}
use mathlib.Core.Option.{Option, none, some}
use Prim.Native.Nat.{ℕ, ◌+◌, ◌≤◌, ◌<◌, min}
use native.Mathlib.Omega.{arith}
use borrow.Author.Tests.{le-leb, lt-leb, eq-eqb, ne_eqb}
use lib.ListN.{length, take, drop, get_or, replicate, length-replicate}
use lib.Seq.{slice}
use Rattle.entry.specs.Entry.{entry_of}
use Rattle.model.specs.declared.AckRange.TheVariants.{Between}
use Rattle.model.specs.declared.AckRule.{AckRule}
use Rattle.model.specs.Model.{ack_rule}
use Rattle.definition.specs.Base.{whether◌then◌else◌, keep}
use Rattle.definition.specs.Types.{Kind, Id, Entry, Inflight, Held, Audit, Dest}
use Rattle.definition.specs.Types as Def
use Rattle.definition.specs.Consumer.{Ack, ack_type, is_browser, ack_range}
use Rattle.definition.specs.Destination.{sub_of}
use Rattle.definition.specs.Words.{at}
use Rattle.definition.specs.Layout.{Row, Buffers, inflight_at, held_at, sub_rows, ids_at, audits_at, view}
use Rattle.definition.proofs.Tests.{if-true, if-false}
use Rattle.definition.proofs.Stored.{flying-rows, held_rows}
use Rattle.table.proofs.Segments.{keep-map}
use Rattle.consumers.specs.declared.Sub.{Sub}
use Rattle.consumers.specs.Consumers.{row_sub}
use Rattle.consumers.specs.Table.{position_from}
use Rattle.consumers.proofs.Laws.{browser-sub}
use Rattle.consumers.proofs.Seek.{found_none}
use Rattle.state.specs.declared.Head.{Head}
use Rattle.state.specs.State.{head_view, loaded, used_of, kind_by, first_reserved, first_waiting}
use Rattle.state.specs.Fits.{fits, Fits}
use Rattle.state.proofs.View.{loaded-long, loaded-view}
use Rattle.table.specs.declared.Span.{Span}
use Rattle.acks.specs.Rules.{in_numbers, in_span, rows_in, span_in}
use Rattle.acks.specs.Parts.{own_flying, own_held, own_view, Own}
use Rattle.acks.proofs.Rules.{spans-between}
use Rattle.acks.proofs.Flying.{span-rows}
use Rattle.acks.proofs.Parts.{flies}
use Rattle.acks.proofs.Whole.{place-within, own_at, found-own}
use Rattle.reserved.specs.Reserved.{wants, wants_row, wanted_of}
use Rattle.reserved.proofs.Types.{keep-keep, taken-by}
use Rattle.reserved.proofs.Loops.{reserved-slice}
use Rattle.definition_station.specs.Letters.{lasting, taken_reserved, rejected_of}
use Rattle.rejects.specs.Rejects.{letters_fit, ack_rejected, head_rejected, letter_row}

-- ---- one row

module _ (gone : Bool) (id : Id) (p : Span) (w : Row) where
  pub letter-not : at 2 w ≡ 0 → false ≡ letter_row gone id p w
  unfolding letter_row entry_of
  letter-not e = sym (ap (λ (b : Bool). (whether gone then wants_row id p w else in_numbers p (at 6 w)) && not b) (eq-eqb (at 2 w) 0 e) ∙ and-false (whether gone then wants_row id p w else in_numbers p (at 6 w)))

  module _ (n : at 2 w ≡ 0 → ⊥) where
    lasts : letter_row gone id p w ≡ (whether gone then wants_row id p w else in_numbers p (at 6 w))
    unfolding letter_row entry_of
    lasts = ap (λ (b : Bool). (whether gone then wants_row id p w else in_numbers p (at 6 w)) && not b) (ne_eqb (at 2 w) 0 n) ∙ and-true (whether gone then wants_row id p w else in_numbers p (at 6 w))

    pub letter-gone : gone ≡ true → wants_row id p w ≡ letter_row gone id p w
    letter-gone g = sym (lasts ∙ if-true (wants_row id p w) (in_numbers p (at 6 w)) g)

    pub letter-there : gone ≡ false → in_numbers p (at 6 w) ≡ letter_row gone id p w
    letter-there g = sym (lasts ∙ if-false (wants_row id p w) (in_numbers p (at 6 w)) g)

-- of rows that pass a test, the persistent ones
lasting-rows : (q : Row → Bool) (l : List Row) → lasting (map entry_of (keep q l)) ≡ map entry_of (keep (λ w. q w && (entry_of w).persistent) l)
lasting-rows q l = keep-map entry_of (λ (e : Entry). e.persistent) (keep q l) ∙ ap (map entry_of) (keep-keep (λ (w : Row). (entry_of w).persistent) q l)

-- ---- a consumer that is present

-- a list of so many events
abbrev events : List Row
events = replicate 545 []

roomy : {subs : List Row} {d : Head} {rows : ℕ} → Fits subs d rows 545 → Fits subs d rows (length events)
roomy {subs} {d} {rows} f = subst (λ (n : ℕ). Fits subs d rows n) (sym (length-replicate {A = Row} 545 [])) f

module _ (subs rows : List Row) (d : Head) (f : Fits subs d (length rows) 545) (id : Id) (a : Ack) (i : ℕ) (e : position_from 0 id (take d.consumers subs) ≡ Some i)
    (base : ℕ) (s : Sub) (eb : base ≡ min 513 (sub_rows (take i subs))) (es : s ≡ row_sub (get_or subs i [])) where
  abbrev k : Kind
  k = kind_by d.queue

  abbrev v : Def.Sub
  v = own_view k base s rows

  here : i < d.consumers
  here = place-within subs rows events d (roomy f) id i e

  pub present-own : Own (length rows) base s d
  present-own = own_at subs rows events d (roomy f) i here base s eb es

  found : sub_of id (head_view d subs rows [] []) ≡ some v
  found = found-own subs rows events d (roomy f) i here base s eb es id e [] []

  browses : is_browser v ≡ s.browser
  browses = browser-sub k s (own_flying base s rows) (own_held base s rows)

  pub browser-rejects : s.browser ≡ true → head_rejected id a d subs rows ≡ []
  unfolding rejected_of
  browser-rejects b = ap (rejected_of id a (head_view d subs rows [] [])) found ∙ if-true _ _ (browses ∙ b)

  pub present-rejects : (p : Span) (end : ℕ) → end ≡ base + s.inflight → p ≡ span_in Between a (rows_in base end rows) → s.browser ≡ false
      → head_rejected id a d subs rows ≡ map entry_of (keep (letter_row false id p) (slice base end rows))
  unfolding rejected_of letter_row
  present-rejects p end ee ep b =
      let own = present-own in
      let l : List Row = slice base (base + s.inflight) rows in
      let fl : v.inflight ≡ map inflight_at l = flies k base s d rows own in
      let span : span_in Between a (rows_in base (base + s.inflight) rows) ≡ _ = span-rows Between a v base (base + s.inflight) rows (omega arith) (omega (arith, own.rows, own.used, own.room)) fl in
      let q : ack_range v a false ≡ in_span p = sym (ap in_span (ep ∙ ap (λ (n : ℕ). span_in Between a (rows_in base n rows)) ee ∙ span) ∙ spans-between a v) in
      ap (rejected_of id a (head_view d subs rows [] [])) found
      ∙ if-false _ _ (browses ∙ b)
      ∙ ap₂ (λ (h : Inflight → Bool) (m : List Inflight). lasting (map (λ (x : Inflight). x.entry) (keep h m))) q fl
      ∙ ap (λ (m : List Inflight). lasting (map (λ (x : Inflight). x.entry) m)) (keep-map inflight_at (in_span p) l)
      ∙ ap lasting (flying-rows (keep (λ w. in_numbers p (at 6 w)) l))
      ∙ lasting-rows (λ w. in_numbers p (at 6 w)) l
      ∙ ap (λ (n : ℕ). map entry_of (keep (letter_row false id p) (slice base n rows))) (sym ee)

-- ---- one that has left

module _ (id : Id) (a : Ack) (t : Dest) where
  pub none_last : a.last ≡ none → rejected_of id a t none ≡ []
  unfolding rejected_of
  none_last e = ap (λ (o : Option ℕ). lasting (taken_reserved id a t o)) e

  pub absent-rejects : (l : List Row) → t.reserved ≡ map held_at l → (last : ℕ) → a.last ≡ some last → (r : AckRule) → r ≡ ack_rule a.type → (p : Span) → p ≡ wanted_of r.reserved a.first last
      → rejected_of id a t none ≡ map entry_of (keep (letter_row true id p) l)
  unfolding rejected_of letter_row wants_row ack_rule
  absent-rejects l e last el r er p ep =
      let q : p ≡ wanted_of (ack_rule a.type).reserved a.first last = ep ∙ ap (λ (x : AckRule). wanted_of x.reserved a.first last) er in
      ap (λ (o : Option ℕ). lasting (taken_reserved id a t o)) el
      ∙ ap lasting (sym (taken-by id a t last (ack_type a.type)))
      ∙ ap₂ (λ (s : Span) (m : List Held). lasting (map (λ (h : Held). h.entry) (keep (wants id s) m))) (sym q) e
      ∙ ap (λ (m : List Held). lasting (map (λ (h : Held). h.entry) m)) (keep-map held_at (wants id p) l)
      ∙ ap lasting (held_rows (keep (wants_row id p) l))
      ∙ lasting-rows (wants_row id p) l

module _ (subs rows : List Row) (d : Head) (f : Fits subs d (length rows) 545) (id : Id) (a : Ack) where
  pub absent-is : position_from 0 id (take d.consumers subs) ≡ None → head_rejected id a d subs rows ≡ rejected_of id a (head_view d subs rows [] []) none
  unfolding head_view
  absent-is e = ap (rejected_of id a (head_view d subs rows [] [])) (found_none id (take d.consumers subs) e (kind_by d.queue) rows)

  pub reserved-rows : (head_view d subs rows [] []).reserved ≡ map held_at (slice (first_reserved d) (first_waiting d) rows)
  unfolding head_view
  reserved-rows = ap (map held_at) (sym (reserved-slice subs rows d (length rows) 545 f))

-- ---- lent buffers

module _ (id : Id) (a : Ack) (d : Head) (subs rows : List Row) (ps : List Id) (us : List Audit) where
  same_taken : (o : Option ℕ) → taken_reserved id a (head_view d subs rows [] []) o ≡ taken_reserved id a (head_view d subs rows ps us) o
  unfolding head_view
  same_taken none = refl
  same_taken (some last) = refl

  same-rejected : (o : Option Def.Sub) → rejected_of id a (head_view d subs rows [] []) o ≡ rejected_of id a (head_view d subs rows ps us) o
  unfolding rejected_of
  same-rejected none = ap lasting (same_taken a.last)
  same-rejected (some s) = refl

  any-rejected : head_rejected id a d subs rows ≡ ack_rejected id a (head_view d subs rows ps us)
  unfolding head_view
  any-rejected = same-rejected (sub_of id (head_view d subs rows ps us))

module _ (b : Buffers) (room : ℕ) (id : Id) (a : Ack) where
  abbrev here-rejected : List Entry
  here-rejected = whether letters_fit b room then ack_rejected id a (view b) else []

  pub head-short : length b.head < 8347 → here-rejected ≡ []
  head-short h = rw (lt-leb 8347 (length b.head) h)

  module _ (long : 8347 ≤ length b.head) where
    pub list-short : room < 512 → here-rejected ≡ []
    list-short h = rw (le-leb 8347 (length b.head) long, lt-leb 512 room h)

    module _ (wide : 512 ≤ room) (d : Head) (e : d ≡ loaded b.head b.subs) where
      fits-as : letters_fit b room ≡ fits b.subs d (length b.rows) 545
      fits-as = rw (le-leb 8347 (length b.head) long, le-leb 512 room wide) (ap (λ (x : Head). fits b.subs x (length b.rows) 545) (sym e))

      pub not-fit : fits b.subs d (length b.rows) 545 ≡ false → here-rejected ≡ []
      not-fit n = if-false _ _ (fits-as ∙ n)

      pub fit-rejected : fits b.subs d (length b.rows) 545 ≡ true → here-rejected ≡ head_rejected id a d b.subs b.rows
      fit-rejected y =
          let h : List ℕ = b.head in
          let seen : head_view d b.subs b.rows (ids_at (at 13 h) (drop 17 h)) (audits_at (at 14 h) (drop 113 h)) ≡ view b =
          ap (λ (x : Head). head_view x b.subs b.rows (ids_at (at 13 h) (drop 17 h)) (audits_at (at 14 h) (drop 113 h))) (e ∙ loaded-long h b.subs long) ∙ loaded-view b.subs b.rows h (used_of h b.subs) in
          if-true _ _ (fits-as ∙ y)
          ∙ sym (any-rejected id a d b.subs b.rows (ids_at (at 13 h) (drop 17 h)) (audits_at (at 14 h) (drop 113 h)) ∙ ap (ack_rejected id a) seen)
