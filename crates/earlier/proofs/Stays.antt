-- No call changes the allowance. Assumes nothing.
use Prim.Native.Nat.{ℕ}
use mathlib.Core.Path.{◌≡◌, ap}
use mathlib.Core.List.{List}
use mathlib.Core.Option.{Option}
use lib.IntN.{ℤ}
use Rattle.definition.specs.Types.{Kind, Id, Entry, Sub, Dest}
use Rattle.definition.specs.Consumer.{Ack}
use Rattle.definition.specs.Destination.{Spec, touch_idle, joined, prefetch_at, reinsert, ack_reserved, returning}
use Rattle.earlier.specs.Claims.{Settings, AllowanceStays}
use Rattle.earlier.proofs.Settings.{touch-stay, joined-stay, prefetch-stay, reserved-stay, reinsert-stay, returning-stay, settings-stay}

abbrev its : Settings → ℕ
its s = s.allowance

pub touch-stays : (now : ℕ) (t : Dest) → (touch_idle now t).allowance ≡ t.allowance
touch-stays now t = ap its (touch-stay now t)

pub joined-stays : (now : ℕ) (p : Spec) (t : Dest) → (joined now p t).allowance ≡ t.allowance
joined-stays now p t = ap its (joined-stay now p t)

pub prefetch-stays : (i : Id) (p : ℤ) (t : Dest) (o : Option Sub) → (prefetch_at i p t o).allowance ≡ t.allowance
prefetch-stays i p t o = ap its (prefetch-stay i p t o)

pub reserved-stays : (i : Id) (a : Ack) (t : Dest) (o : Option ℕ) → (ack_reserved i a t o).dest.allowance ≡ t.allowance
reserved-stays i a t o = ap its (reserved-stay i a t o)

pub reinsert-stays : (now : ℕ) (es : List Entry) (t : Dest) → (reinsert now es t).allowance ≡ t.allowance
reinsert-stays now es t = ap its (reinsert-stay now es t)

pub returning-stays : (now : ℕ) (s : Sub) (last : ℤ) (t : Dest) (k : Kind) → (returning now s last t k).allowance ≡ t.allowance
returning-stays now s last t k = ap its (returning-stay now s last t k)

pub allowance-stays : AllowanceStays
allowance-stays lent c t = ap its (settings-stay lent c t)
