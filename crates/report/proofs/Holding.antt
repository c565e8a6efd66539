-- What a destination in lent buffers holds, put first in a list: what the code leaves is what the definition has. Assumes nothing.
use mathlib.Core.Path.{◌≡◌, sym, ap, ◌∙◌}
use mathlib.Core.Bool.{true, false}
use mathlib.Core.List.{List, []}
use Prim.Native.Nat.{ℕ, ◌≤◌, ◌<◌}
use native.Mathlib.Omega.{arith}
use borrow.Author.Tests.{lt-ltb, le-ltb, lt-leb, le-leb}
use lib.ListN.{length}
use lib.Seq.{sets}
use Rattle.definition.specs.Calls.{state_short, short}
use Rattle.definition.specs.Words.{at}
use Rattle.definition.specs.Layout.{Row, Buffers, used_rows, view, sound_buffers, lengths_of, lent}
use Rattle.definition.proofs.Tests.{if-true, if-false, and_both}
use Rattle.state.specs.declared.Head.{Head}
use Rattle.state.specs.State.{head_of, head_view, used_of, loaded}
use Rattle.state.proofs.View.{loaded-long}
use Rattle.state.proofs.Fitting.{Long, not_short}
use Rattle.fates.specs.Blocks.{Block, held_blocks, account_of}
use Rattle.report.specs.Report.{list_with, counts_fit, blocks_in, HeldNumbers}
use Rattle.report.proofs.Accounting.{put_first}
use Rattle.report.proofs.Loaded.{sound-counts, kind-is, queue-numbers, holds-are}

module _ (b : Buffers) (room : ℕ) where
  pub no_room : room < 512 → blocks_in b room ≡ []
  unfolding blocks_in
  no_room h = rw (lt-ltb room 512 h)

  module _ (h : 512 ≤ room) where
    pub none-whole : state_short (lengths_of b 0) ≡ true → blocks_in b room ≡ []
    unfolding blocks_in
    none-whole s = rw (le-ltb room 512 h, s)

    module _ (s : state_short (lengths_of b 0) ≡ false) where
      none-counted : counts_fit b ≡ false → blocks_in b room ≡ []
      unfolding blocks_in
      none-counted e = rw (le-ltb room 512 h, s, e)

      pub counted-blocks : counts_fit b ≡ true → blocks_in b room ≡ account_of (view b)
      unfolding blocks_in
      counted-blocks e = rw (le-ltb room 512 h, s, e)

      pub sound-blocks : sound_buffers b ≡ true → blocks_in b room ≡ account_of (view b)
      sound-blocks u = counted-blocks (sound-counts b u)

module _ (head : List ℕ) (subs rows : List Row) (bs : List Block) where
  abbrev b : Buffers
  b = lent head subs rows

  abbrev Puts : ℕ → List Block → Type 0
  Puts r list = (r ≡ length (blocks_in b (length bs))) × ((r ≤ 512) × (list ≡ list_with (blocks_in b (length bs)) bs))

  pub none-put : blocks_in b (length bs) ≡ [] → Puts 0 bs
  none-put e = (sym (ap length e), (omega arith, sym (ap (λ (l : List Block). list_with l bs) e)))

  module _ (roomy : 512 ≤ length bs) (s : state_short (lengths_of b 0) ≡ false) (d : Head) (l : d ≡ loaded head subs) where
    long : Long b 545
    unfolding short state_short
    long = not_short b 545 (rw s)

    d-long : d ≡ head_of head (used_of head subs)
    d-long = l ∙ loaded-long head subs long.head

    consumers-are : d.consumers ≡ at 12 head
    unfolding head_of
    consumers-are = ap (λ (x : Head). x.consumers) d-long

    used-are : d.used ≡ used_of head subs
    unfolding head_of
    used-are = ap (λ (x : Head). x.used) d-long

    pub many-consumers : 32 < d.consumers → Puts 0 bs
    unfolding counts_fit
    many-consumers h = none-put (none-counted b (length bs) roomy s (rw (lt-leb (at 12 head) 32 (omega (arith, h, consumers-are)))))

    module _ (few : d.consumers ≤ 32) where
      pub many-rows : 512 < d.used → Puts 0 bs
      unfolding counts_fit
      many-rows h = none-put (none-counted b (length bs) roomy s (rw (le-leb (at 12 head) 32 (omega (arith, few, consumers-are)), lt-leb (used_rows b) 512 (omega (arith, h, used-are)))))

      module _ (fewer : d.used ≤ 512) where
        counted : counts_fit b ≡ true
        unfolding counts_fit
        counted = and_both _ _ (le-leb (at 12 head) 32 (omega (arith, few, consumers-are))) (le-leb (used_rows b) 512 (omega (arith, fewer, used-are)))

        shown : blocks_in b (length bs) ≡ account_of (view b)
        shown = counted-blocks b (length bs) roomy s counted

        pub topic-put : d.queue ≡ false → Puts 0 bs
        unfolding account_of
        topic-put q = none-put (shown ∙ if-false _ [] (kind-is b 545 long counted d l ∙ q))

        pub numbers_fit : d.queue ≡ true → HeldNumbers d subs rows
        numbers_fit q = queue-numbers b 545 long counted d l q

        holds-is : d.queue ≡ true → blocks_in b (length bs) ≡ held_blocks (head_view d subs rows [] [])
        unfolding account_of
        holds-is q = shown ∙ if-true _ [] (kind-is b 545 long counted d l ∙ q) ∙ holds-are b 545 long counted d l

        pub queue-put : d.queue ≡ true → (count : ℕ) (list : List Block) → count ≡ length (held_blocks (head_view d subs rows [] [])) → count ≤ 512 → list ≡ sets bs 0 (held_blocks (head_view d subs rows [] [])) → Puts count list
        queue-put q count list e few p =
            let v = held_blocks (head_view d subs rows [] []) in
            (e ∙ sym (ap length (holds-is q)), (few, p ∙ put_first v bs (omega (arith, e, few, roomy)) ∙ sym (ap (λ (x : List Block). list_with x bs) (holds-is q))))
