-- Down on a record, by what the station makes of the message: it asks, it holds, it goes on as after a GONE, or it drops it.
-- Assumes nothing.
use mathlib.Core.Bool.{true, false}
use mathlib.Core.List.{List}
use mathlib.Core.Path.{◌≡◌, refl, sym, ap, ap₂, ◌∙◌}
use Prim.Native.Nat.{ℕ, ◌<◌}
use lib.ListN.{length, get_or}
use Rattle.lists.specs.At.{at2}
use Rattle.lists.proofs.Changed.{at_kept}
use Rattle.units.specs.declared.Units.{Units}
use Rattle.plain.specs.Answer.{Answer, Returned, nothing, entered_only, above_only, refused, done}
use Rattle.plain.specs.Asking.{to_come, asking}
use Rattle.plain.specs.Down.{Taken, left, returned, taken_at, down_passes, received_as, down}
use Rattle.plain.specs.Lanes.{no_place}
use Rattle.plain.specs.Updates.{with_phase, with_down, with_downs}
use Rattle.plain.specs.declared.Message.{Message}
use Rattle.plain.specs.declared.Phase.{Phase}
use Rattle.plain.specs.declared.Phase.TheVariants.{Idle, Collecting, Holding, Withdrawing}
use Rattle.plain.proofs.Passed.{down_full, down-done}
use Rattle.records.specs.View.{no_station, lanes_of, view}
use Rattle.records.specs.declared.Lanes.{Lanes}
use Rattle.records.specs.declared.Record.{Record}
use Rattle.records.proofs.Storing.{store_phase, store_down, phase-stored, down-stored}
use Rattle.records.proofs.Viewing.{phases_at}
use Rattle.calls.specs.Inner.Parts.{ask_answer, Takes, after_gone}
use Rattle.calls.specs.declared.asking.Wish.{Wish}
use Rattle.calls.proofs.AskingMember.{ask_full, ask_room, asked-full, asked-room}
use Rattle.calls.proofs.TakingMessage.{delivers}

-- the message has been taken, and the lanes down are those without it
module _ (r : Record) (s j : ℕ) {m : Message} (takes : Takes r s j (view r).down m) where
  abbrev pub Without : Lanes → Type 0
  Without rest = lanes_of r.n rest ≡ at2 (lanes_of r.n r.down) s j takes.took.rest

  abbrev lane : List Message
  lane = takes.took.rest

  without_is : (rest : Lanes) → Without rest → view (store_down rest r) ≡ with_down s j lane (view r)
  unfolding view
  without_is rest without = down-stored r rest without

  -- the station makes t of it
  module _ (t : Taken) (made : taken_at (view r) s j m ≡ t) where
    full_as : down_passes (view r) s t ≡ true → down (view r) s j ≡ refused (view r) no_place
    full_as f = down_full (view r) s j (delivers r s j takes) (rw made f)

    done_as : down_passes (view r) s t ≡ false → down (view r) s j ≡ done (returned (view r) t) (received_as (view r) s j lane t)
    done_as f = rw made at (down-done (view r) s j (delivers r s j takes) (rw made f))

  -- it asks: what asking answers, but that the message is gone
  module _ (w : Wish) (asks : taken_at (view r) s j m ≡ Taken.asks w.quorum w.units w.member) (above : w.above ≡ to_come (view r) w.quorum w.member) where
    abbrev pub asking_answer : Answer
    asking_answer = ask_answer (view r) s w.quorum w.units w.member w.above

    pub asks_full : {a : Answer} → a ≡ asking_answer → (a.refusal ≡ 0 → ⊥) → down (view r) s j ≡ a
    unfolding view
    asks_full {a} is some =
        let full = asked-full (view r) s w.quorum w.units w.member w.above a is some in
        full_as (Taken.asks w.quorum w.units w.member) asks full ∙ sym (is ∙ ask_full (view r) s w.quorum w.units w.member w.above full)

    pub asks-done : (x : Returned) (next : Record) (rest : Lanes) → done x (view next) ≡ asking_answer → lanes_of next.n rest ≡ at2 (lanes_of r.n r.down) s j lane
        → down (view r) s j ≡ done x (view (store_down rest next))
    unfolding view received_as
    asks-done x next rest is without =
        let room = asked-room (view r) s w.quorum w.units w.member w.above (done x (view next)) is refl in
        let e = is ∙ ask_room (view r) s w.quorum w.units w.member w.above room in
        let returns : x ≡ above_only w.above = ap (λ (a : Answer). record { entered = a.entered; left = a.left; above = a.above }) e in
        let state : view next ≡ asking (view r) s w.quorum w.units w.member = ap (λ (a : Answer). a.state) e in
        done_as (Taken.asks w.quorum w.units w.member) asks room
        ∙ ap₂ done (ap above_only (sym above) ∙ sym returns) (sym (ap₂ with_downs without state))

  -- it holds, or is in another phase
  module _ (rest : Lanes) (without : Without rest) (long : s < length r.stations) where
    rephased : (p : Phase) → with_phase s p (with_down s j lane (view r)) ≡ view (store_phase s p (store_down rest r))
    rephased p = sym (phase-stored (store_down rest r) s p takes.took.station long ∙ rw (without_is rest without))

    pub holds-done : (q : ℕ) (h : Units) → taken_at (view r) s j m ≡ Taken.holds q h → down (view r) s j ≡ done (entered_only h) (view (store_phase s (Holding q h) (store_down rest r)))
    unfolding received_as
    holds-done q h made = done_as (Taken.holds q h) made refl ∙ ap (done (entered_only h)) (rephased (Holding q h))

    -- after a GONE, in the phase p
    gone_in : (p : Phase) → (view r).phase s ≡ p → taken_at (view r) s j m ≡ left p → down (view r) s j ≡ done nothing (view (store_phase s (after_gone p) (store_down rest r)))
    unfolding received_as left
    gone_in Idle e made = done_as Taken.drops made refl ∙ ap (done nothing) (rw (at_kept (view r).phase s Idle e) at (rephased Idle))
    gone_in (Collecting q h m) e made = done_as Taken.drops made refl ∙ ap (done nothing) (rw (at_kept (view r).phase s (Collecting q h m) e) at (rephased (Collecting q h m)))
    gone_in (Holding q h) e made = done_as Taken.drops made refl ∙ ap (done nothing) (rw (at_kept (view r).phase s (Holding q h) e) at (rephased (Holding q h)))
    gone_in Withdrawing e made = done_as Taken.idles made refl ∙ ap (done nothing) (rephased Idle)

    pub gone_done : ((p : Phase) → (view r).phase s ≡ p → taken_at (view r) s j m ≡ left p)
        → down (view r) s j ≡ done nothing (view (store_phase s (after_gone (get_or r.stations s no_station).phase) (store_down rest r)))
    unfolding view
    gone_done made =
        let is = phases_at r.n r.stations s takes.took.station in
        gone_in (get_or r.stations s no_station).phase is (made (get_or r.stations s no_station).phase is)

  -- it drops the message
  pub drops-done : (rest : Lanes) → Without rest → taken_at (view r) s j m ≡ Taken.drops → down (view r) s j ≡ done nothing (view (store_down rest r))
  unfolding received_as
  drops-done rest without made = done_as Taken.drops made refl ∙ ap (done nothing) (sym (without_is rest without))
