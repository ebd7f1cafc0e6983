-- Up on a record that has taken a message, from the facts that its parts give.
-- Assumes nothing.
use mathlib.Core.Bool.{Bool, true, false}
use mathlib.Core.List.{List}
use mathlib.Core.Path.{◌≡◌, ap, ◌∙◌}
use Prim.Native.Nat.{ℕ, ◌<◌}
use native.Mathlib.Omega.{arith}
use lib.ListN.{length, get_or}
use Rattle.std.specs.Prelude.{Ok}
use Rattle.lists.specs.At.{at2}
use Rattle.lists.specs.Search.{some_below}
use Rattle.lists.specs.Cut.{cut}
use Rattle.lists.proofs.Cuts.{length_cut, get_or-cut}
use Rattle.std.proofs.lemmas.Bool.{or_left, or_right}
use Rattle.plain.specs.Answer.{nothing, refused, done}
use Rattle.plain.specs.Arbiter.{arrived, Served, served}
use Rattle.plain.specs.Lanes.{down_places, line_places, no_place, passes}
use Rattle.plain.specs.State.{Arbiter as PlainArbiter}
use Rattle.plain.specs.Up.{replying, granting, delivered_of, up}
use Rattle.plain.specs.declared.Entry.{Entry}
use Rattle.plain.specs.declared.Message.{Message}
use Rattle.plain.proofs.Passed.{up_full, up_done}
use Rattle.records.specs.View.{no_arbiter, no_entry, arbiter_of, lanes_of, view}
use Rattle.records.specs.declared.Arbiter.{Arbiter}
use Rattle.records.specs.declared.Lanes.{Lanes}
use Rattle.records.specs.declared.Record.{Record}
use Rattle.arbiters.specs.Telling.{servable, telling, told_of}
use Rattle.arbiters.specs.declared.answers.Delivery.{Delivery}
use Rattle.arbiters.proofs.TellingArbiter.{in_range-servable, Told, told-done}
use Rattle.records.proofs.Storing.{store_arbiter, store_up, store_down}
use Rattle.records.proofs.Viewing.{arbiters_at, arbiters_with}
use Rattle.calls.specs.Inner.Parts.{Sends, Takes}
use Rattle.calls.proofs.RecordInRange.{arbiter_in_lem, down-short}
use Rattle.calls.proofs.TakingMessage.{delivers}

module _ (r : Record) (s j : ℕ) (m : Message) (takes : Takes r s j (view r).up m) where
  -- the arbiter when the message has arrived, and when its line was served then
  abbrev pub joined : PlainArbiter
  joined = arrived m s (arbiter_of r.n (get_or r.arbiters j no_arbiter))

  abbrev pub service : Served
  service = served r.n r.stock joined

  -- the lanes down when GONE has gone down, if the message was WITHDRAW
  abbrev pub lanes_told : ℕ → ℕ → List Message
  lanes_told = replying m (lanes_of r.n r.down) s j

  abbrev pub passing : List Entry → ℕ → Bool
  passing grants t = passes down_places (granting lanes_told j grants t j)

  arbiter_is : (view r).arbiter j ≡ arbiter_of r.n (get_or r.arbiters j no_arbiter)
  unfolding view
  arbiter_is = arbiters_at r.n r.arbiters j takes.took.arbiter

  -- the arbiter can be served, since it is in range
  pub fit : servable r.n (arbiter_of r.n (get_or r.arbiters j no_arbiter)) ≡ true
  fit = in_range-servable r.n r.stock (arbiter_of r.n (get_or r.arbiters j no_arbiter)) takes.few (arbiter_in_lem r takes.range j takes.took.arbiter)

  -- the line would pass its limit
  pub line_full_lem : passes line_places joined.line ≡ true → up (view r) s j ≡ refused (view r) no_place
  line_full_lem f = up_full (view r) s j (delivers r s j takes) (rw arbiter_is (or_left (passes line_places joined.line) _ f))

  module _ (grants : List Entry) (are : grants ≡ service.grants) where
    -- a lane down would
    pub lane-down_full : some_below (passing grants) r.n ≡ true → up (view r) s j ≡ refused (view r) no_place
    unfolding view
    lane-down_full f = up_full (view r) s j (delivers r s j takes) (rw arbiter_is (or_right (passes line_places joined.line) _ (rw are at f)))

    pub all-stored : (after : Arbiter) (up' down' : Lanes) → j < length r.arbiters → arbiter_of r.n after ≡ service.arbiter → lanes_of r.n down' ≡ granting lanes_told j grants
        → lanes_of r.n up' ≡ at2 (lanes_of r.n r.up) s j takes.took.rest → passes line_places joined.line ≡ false → some_below (passing grants) r.n ≡ false
        → up (view r) s j ≡ done nothing (view (store_down down' (store_arbiter j after (store_up up' r))))
    unfolding view delivered_of
    all-stored after up' down' long a c u f g =
        up_done (view r) s j (delivers r s j takes) (rw (arbiter_is, f) (rw are at g))
        ∙ ap (done nothing) (rw (arbiter_is, arbiters_with r.n r.arbiters j after takes.took.arbiter long, a, c, are, u))

  -- what the arbiter's part delivers, with these entries granted
  module _ (d : Delivery) (told : told_of r.n (get_or r.arbiters j no_arbiter) (Ok d) ≡ telling r.n r.stock s m (arbiter_of r.n (get_or r.arbiters j no_arbiter)))
      (grants : List Entry) (are : grants ≡ cut no_entry d.grants d.line) where
    pub facts : Told r.n r.stock joined d
    facts = told-done r.n r.stock s m (arbiter_of r.n (get_or r.arbiters j no_arbiter)) fit takes.took.station (get_or r.arbiters j no_arbiter) d told

    pub grants-are : grants ≡ service.grants
    grants-are = are ∙ facts.grants

    pub sends : Sends r.n s j grants (lanes_of r.n r.down)
    sends =
        record {
          few = takes.few;
          station = takes.took.station;
          arbiter = takes.took.arbiter;
          named = λ i h.
              let within : i < d.grants = omega (arith, ap length are, length_cut no_entry d.grants d.line) in
              rw (are, get_or-cut no_entry d.grants d.line i within) (facts.named i within);
          room = λ t h. down-short r takes.range t j h takes.took.arbiter;
        }
