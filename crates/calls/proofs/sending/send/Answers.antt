-- `calls::sending::send` meets its contract. First GONE, if it is sent; then the lanes are those in which the entries before the one in hand were
-- granted; none passed its limit.
-- Assumes nothing.
use mathlib.Core.List.{List}
use mathlib.Core.Path.{◌≡◌, sym, ap, ◌∙◌}
use Prim.Native.Nat.{ℕ, ◌+◌, ◌≤◌, ◌<◌}
use native.Mathlib.Omega.{arith}
use borrow.Author.Tests.{le-ltb}
use lib.ListN.{length, get_or}
use Rattle.lists.specs.At.{at2}
use Rattle.lists.specs.Cut.{cut}
use Rattle.lists.proofs.Searches.{some_empty}
use Rattle.plain.specs.Lanes.{down_places, passes, sent}
use Rattle.plain.specs.Up.{replying, granting}
use Rattle.plain.specs.declared.Message.{Message}
use Rattle.plain.specs.declared.Message.TheVariants.{Grant, Gone}
use Rattle.records.specs.View.{no_entry, lanes_of}
use Rattle.calls.proofs.ReplyingGone.{with_gone, reply_gone, reply_none, gone_room, gone_passes}
use Rattle.calls.proofs.SendingGrants.{granted_before, before_first, before_next, still_room, would_pass, whole}
use Rattle.calls.proofs.SendingMessage.{had_room, no_room, full_length, room_length}
use Rattle.calls.proofs.sending.send.Goals as goal
use Rattle.calls.proofs.sending.send.Goals.{else-is_withdrawal, then-is_withdrawal+in-Ok, Joined-is_withdrawal, After-loop-entry}

-- ---- GONE

-- the lane of the sender has no room
pub returns-in-Err-clause-refusal : goal.returns-in-Err-clause-refusal
returns-in-Err-clause-refusal c =
    let x = c.args in
    let p = c.requires in
    let lanes = lanes_of x.n x.down.now in
    let (full, number) = no_room _ c.in-Err.refusal (c.in-Err.ensures.refusal x.n p.station p.arbiter) in
    rw (reply_gone lanes x.s x.j x.m (sym c.is_withdrawal.ensures ∙ c.if-is_withdrawal.true), gone_passes lanes x.s x.j x.n x.grants.now p.station (full_length down_places (lanes x.s x.j) Gone full)) number

-- GONE is in it, if it is sent, and all lanes from j keep their limit
module _ (c : Joined-is_withdrawal) where
  abbrev before : ℕ → ℕ → List Message
  before = lanes_of c.args.n c.args.down.now

  abbrev lanes : ℕ → ℕ → List Message
  lanes = lanes_of c.args.n c.if-is_withdrawal.down

  told : (lanes ≡ replying c.args.m before c.args.s c.args.j) × ((t : ℕ) → t < c.args.n → length (lanes t c.args.j) ≤ down_places)
  told =
      let x = c.args in
      let p = c.requires in
      elim c.if-is_withdrawal.branch [
        | then-is_withdrawal+in-Ok w ↦
            let gone : lanes ≡ with_gone before x.s x.j = ap (lanes_of x.n) w.down-is ∙ w.in-Ok.ensures.lanes x.n p.station p.arbiter in
            let room = room_length down_places (before x.s x.j) Gone (had_room _ (w.in-Ok.ensures.refusal x.n p.station p.arbiter)) in
            (gone ∙ sym (reply_gone before x.s x.j x.m (sym c.is_withdrawal.ensures ∙ w.if-is_withdrawal.true)), rw gone (gone_room before x.s x.j x.n p.room room))
        | else-is_withdrawal w ↦
            let same : lanes ≡ before = ap (lanes_of x.n) w.down-is in
            (same ∙ sym (reply_none before x.s x.j x.m (sym c.is_withdrawal.ensures ∙ w.if-is_withdrawal.false)), rw same p.room)
      ]

-- ---- the grants

pub loop-entry-init : goal.loop-entry-init
loop-entry-init c =
    let here = (goal.at.loop-entry-init c).Joined-is_withdrawal in
    let e = before_first (lanes here) c.args.j c.args.grants.now in
    (sym e, λ t h. rw e ((told here).1 t h))

pub returns-in-Err-put_between-clause-refusal : goal.returns-in-Err-put_between-clause-refusal
returns-in-Err-put_between-clause-refusal c =
    let here = (goal.at.returns-in-Err-put_between-clause-refusal c).Joined-is_withdrawal in
    let x = c.args in
    let i = c.loop-entry.entry-index in
    let grants = x.grants.now in
    let named = c.requires.named i c.loop-entry-test.true in
    let station = (get_or grants i no_entry).station in
    let (full, number) = no_room _ c.in-Err-put_between.refusal (c.in-Err-put_between.ensures.refusal x.n named c.requires.arbiter) in
    let long = full_length down_places (lanes_of x.n c.loop-entry.down station x.j) Grant full in
    let passing = would_pass (lanes here) x.j grants i x.n (length grants) c.loop-entry-test.true named (rw c.loop-entry.invariant.0 at long) in
    rw (sym (told here).0, rw (whole no_entry grants) at passing) number

pub loop-entry-preserved : goal.loop-entry-preserved
loop-entry-preserved c =
    let here = (goal.at.loop-entry-preserved c).Joined-is_withdrawal in
    let x = c.args in
    let i = c.loop-entry.entry-index in
    let grants = x.grants.now in
    let named = c.requires.named i c.loop-entry-test.true in
    let station = (get_or grants i no_entry).station in
    let so_far = granted_before (lanes here) x.j grants i in
    let put : lanes_of x.n c.put_between-in-loop-entry.new.all ≡ granted_before (lanes here) x.j grants (i + 1) =
    c.in-Ok-put_between.ensures.lanes x.n named c.requires.arbiter
    ∙ ap (λ (f : ℕ → ℕ → List Message). at2 f station x.j (sent (f station x.j) Grant)) c.loop-entry.invariant.0
    ∙ sym (before_next (lanes here) x.j grants i) in
    let room = room_length down_places (lanes_of x.n c.loop-entry.down station x.j) Grant (had_room _ (c.in-Ok-put_between.ensures.refusal x.n named c.requires.arbiter)) in
    (put, still_room (lanes here) x.j grants i x.n c.loop-entry.invariant.1 (rw c.loop-entry.invariant.0 at room))

-- all have been granted
all : (c : After-loop-entry) → cut no_entry c.loop-entry.entry-index c.args.grants.now ≡ c.args.grants.now
all c =
    let e : c.loop-entry.entry-index ≡ length c.args.grants.now = omega arith in
    ap (λ (i : ℕ). cut no_entry i c.args.grants.now) e ∙ whole no_entry c.args.grants.now

pub returns-clause-refusal : goal.returns-clause-refusal
returns-clause-refusal c =
    let here = (goal.at.returns-clause-refusal c).Joined-is_withdrawal in
    let x = c.args in
    let room = some_empty (λ t. passes down_places (granting (lanes here) x.j x.grants.now t x.j)) x.n (λ t h. le-ltb _ _ (rw (all c) at (c.loop-entry.invariant.1 t h))) in
    rw (sym (told here).0, room)

pub returns-clause-lanes : goal.returns-clause-lanes
returns-clause-lanes c =
    let here = (goal.at.returns-clause-lanes c).Joined-is_withdrawal in
    let x = c.args in
    c.loop-entry.invariant.0 ∙ ap (granting (lanes here) x.j) (all c) ∙ ap (λ (f : ℕ → ℕ → List Message). granting f x.j x.grants.now) (told here).0
