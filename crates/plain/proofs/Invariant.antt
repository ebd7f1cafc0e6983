-- What holds in every state that calls lead to from a fresh one: a law for each call but Withdraw.
-- Assumes nothing.
use mathlib.Core.Bool.{Bool, true, false}
use mathlib.Core.List.{List, ◌++◌}
use mathlib.Core.Logic.{by_cases, ⊎_elim}
use mathlib.Core.Path.{◌≡◌, refl, sym, ◌∙◌}
use Prim.Native.Nat.{ℕ, suc, ◌≤◌, ◌<◌}
use native.Mathlib.Decide.{ℕ_discrete}
use native.Mathlib.Omega.{arith}
use lib.Dec.{ltb}
use lib.ListN.{length}
use borrow.Author.Tests.{eq-eqb, ne_eqb, ltb-true}
use Rattle.lists.specs.At.{at, at2}
use Rattle.lists.proofs.Changed.{at_same, at_other, at_all}
use Rattle.lists.proofs.Tests.{and_left}
use Rattle.std.proofs.lemmas.Bool.{cases_Bool}
use Rattle.stations.specs.Member.{member}
use Rattle.stations.specs.Sets.{lowest_from}
use Rattle.quorum.specs.Family.{quorum}
use Rattle.units.specs.declared.Units.{Units}
use Rattle.units.proofs.Amounts.{Within}
use Rattle.plain.specs.Arbiter.{units_in, served, grants_to}
use Rattle.plain.specs.Down.{Taken, taken, left, taken_at, received_as}
use Rattle.plain.specs.Inner.Passed.{Requests, Delivers, Releases}
use Rattle.plain.specs.InRange.{phase_in}
use Rattle.plain.specs.Lanes.{sent}
use Rattle.plain.specs.Release.{releasing, given_back}
use Rattle.plain.specs.Request.{lowest, requested}
use Rattle.plain.specs.State.{Arbiter, State}
use Rattle.plain.specs.Up.{arrived_at, replying, granting, delivered_of}
use Rattle.plain.specs.declared.Message.{Message}
use Rattle.plain.specs.declared.Message.TheVariants.{Request, Grant}
use Rattle.plain.specs.declared.Phase.{Phase}
use Rattle.plain.specs.declared.Phase.TheVariants.{Idle, Collecting, Holding, Withdrawing}
use Rattle.plain.proofs.Approaching.{onward_as, Lowest_member, first_member}
use Rattle.plain.proofs.Arriving.{arrived_own, arrived-line, arrived-grants, arrived-stock}
use Rattle.plain.proofs.Pairs.{Part, Pair, sends-request, Takes, takes, sends-release, line-served}
use Rattle.plain.proofs.Range.{ranged, taken-goes-up}
use Rattle.plain.proofs.Replying.{replying_own, replying_other}
use Rattle.plain.proofs.Releasing.{releasing-member, releasing_other}
use Rattle.plain.proofs.Serving.{units-append, serve_splits, serve-grants, serve-stock}
use Rattle.plain.proofs.Wants.{wants_holding, share, wants, share_member, share_other, wants_here, wants_below, wants_above, wants_first, wants_next, wants_all, wants_others, waits_for, leaves_from}

-- a station that collects approaches a member of its quorum, and one that withdraws leaves one of the n arbiters
unfoldable pub approaches : ℕ → List ℕ → ℕ → Phase → Bool
approaches n table a Idle = true
approaches n table a (Collecting q h m) = member (quorum table q) m
approaches n table a (Holding q h) = true
approaches n table a Withdrawing = ltb a n

-- a station that withdraws keeps nothing, so whom it is leaving is said here, and is no part of the state
pub record Invariant (st : State) : Type 0 where
  pub leaving : ℕ → ℕ
  pub pairs : (s j : ℕ) → Pair (wants st.table (leaving s) (st.phase s) j) (st.up s j) (units_in s (st.arbiter j).line) ((st.arbiter j).granted s) (st.down s j)
  pub stock : (j : ℕ) → Within st.n st.stock (st.arbiter j).granted
  pub members : (s : ℕ) → approaches st.n st.table (leaving s) (st.phase s) ≡ true

-- ---- Request

module _ (st : State) (s q : ℕ) (h : Units) (r : Requests st s q h) (i : Invariant st) where
  low : Lowest_member st.n (quorum st.table q) 0 (lowest st q)
  low = first_member st.n st.stock st.table (ranged st r.range).limits q r.quorum

  -- an idle station wants nothing
  idle : (j : ℕ) → Pair Part.nothing (st.up s j) (units_in s (st.arbiter j).line) ((st.arbiter j).granted s) (st.down s j)
  unfolding wants
  idle j = rw r.idle at (i.pairs s j)

  pub request-keeps : Invariant (requested st s q h)
  unfolding requested approaches
  request-keeps =
      record {
        leaving = i.leaving;
        pairs = λ t j. by_cases (ℕ_discrete t s) (λ (e : t ≡ s). rw e (own j)) (λ (d : t ≡ s → ⊥). other t j d);
        stock = i.stock;
        members = λ t. at_all (λ p. approaches st.n st.table (i.leaving t) p ≡ true) st.phase s (Collecting q h m) low.belongs t (i.members t);
      }
    where
      m : ℕ
      m = lowest st q

      other : (t j : ℕ) → (t ≡ s → ⊥) → Pair (wants st.table (i.leaving t) ((requested st s q h).phase t) j) ((requested st s q h).up t j) (units_in t (st.arbiter j).line) ((st.arbiter j).granted t) (st.down t j)
      other t j d = rw (at_other st.phase s (Collecting q h m) t d, at_other st.up s _ t d) (i.pairs t j)

      own : (j : ℕ) → Pair (wants st.table (i.leaving s) ((requested st s q h).phase s) j) ((requested st s q h).up s j) (units_in s (st.arbiter j).line) ((st.arbiter j).granted s) (st.down s j)
      own j = rw (at_same st.phase s (Collecting q h m), at_same st.up s _) (
          by_cases (ℕ_discrete j m)
          (λ (e : j ≡ m). rw (e, at_same (st.up s) m _, wants_here st.table (i.leaving s) q h m) (sends-request (idle m)))
          (λ (d : j ≡ m → ⊥). rw (at_other (st.up s) m _ j d, wants_first st.table (i.leaving s) q h m (λ x l. low.before x (omega arith) l) j d) (idle j)))

-- ---- Up

module _ (st : State) (s j : ℕ) (m : Message) (rest : List Message) (d : Delivers st s j (st.up s j) m rest) (i : Invariant st) where
  -- the arbiter when the message has arrived
  a : Arbiter
  a = arrived_at st s j m

  -- the lane up of station t to j, its oldest message taken if t is the sender
  lane-up : ℕ → List Message
  lane-up t = at2 st.up s j rest t j

  -- and the lane down, with GONE in it if t is the sender and has withdrawn
  lane-down : ℕ → List Message
  lane-down t = replying m st.down s j t j

  -- then the line is yet to be served
  arrival : (t : ℕ) → Pair (wants st.table (i.leaving t) (st.phase t) j) (lane-up t) (units_in t a.line) (a.granted t) (lane-down t)
  unfolding a lane-up lane-down
  arrival t =
      by_cases (ℕ_discrete t s)
      (λ (e : t ≡ s). rw (e, at_same st.up s (at (st.up s) j rest), at_same (st.up s) j rest, replying_own st.down s j m)
      (arrived_own st.stock s (st.arbiter j) m (taken-goes-up st s j m rest d) (rw d.taken at (i.pairs s j))))
      (λ (o : t ≡ s → ⊥).
      rw (at_other st.up s (at (st.up s) j rest) t o, arrived-line st.stock s (st.arbiter j) m t o, arrived-grants st.stock s (st.arbiter j) m t o, replying_other st.down s j m t j (λ e z. o e))
      (i.pairs t j))

  -- and when it was
  service : (t : ℕ)
      → Pair (wants st.table (i.leaving t) (st.phase t) j) (lane-up t) (units_in t (served st.n st.stock a).arbiter.line)
      ((served st.n st.stock a).arbiter.granted t) (lane-down t ++ grants_to t (served st.n st.stock a).grants)
  service t =
      rw (serve-grants st.n st.stock a.granted a.line t)
      (line-served {down = lane-down t} (units_in t (served st.n st.stock a).grants) (units_in t (served st.n st.stock a).arbiter.line)
      (rw (sym (units-append t (served st.n st.stock a).grants (served st.n st.stock a).arbiter.line), serve_splits st.n st.stock a.granted a.line)
      (arrival t)))

  pub up-keeps : Invariant (delivered_of st s j m rest)
  unfolding delivered_of a lane-up lane-down granting
  up-keeps =
      record {
        leaving = i.leaving;
        pairs = λ t x. by_cases (ℕ_discrete x j) (λ (e : x ≡ j). rw (e, at_same st.arbiter j (served st.n st.stock a).arbiter, eq-eqb j j refl) (service t)) (λ (o : x ≡ j → ⊥). other t x o);
        stock = λ x. at_all (λ b. Within st.n st.stock b.granted) st.arbiter j (served st.n st.stock a).arbiter
            (serve-stock st.n st.stock a.granted a.line (arrived-stock st.stock s (st.arbiter j) m st.n (i.stock j)))
            x (i.stock x);
        members = i.members;
      }
    where
      same-lane : (t x : ℕ) → (x ≡ j → ⊥) → at2 st.up s j rest t x ≡ st.up t x
      same-lane t x o =
          by_cases (ℕ_discrete t s) (λ (e : t ≡ s). rw (e, at_same st.up s (at (st.up s) j rest)) (at_other (st.up s) j rest x o))
          (λ (e : t ≡ s → ⊥). rw (at_other st.up s (at (st.up s) j rest) t e))

      other : (t x : ℕ) → (x ≡ j → ⊥)
          → Pair (wants st.table (i.leaving t) (st.phase t) x) (at2 st.up s j rest t x) (units_in t (at st.arbiter j (served st.n st.stock a).arbiter x).line)
          ((at st.arbiter j (served st.n st.stock a).arbiter x).granted t) (granting (replying m st.down s j) j (served st.n st.stock a).grants t x)
      other t x o = rw (same-lane t x o, at_other st.arbiter j (served st.n st.stock a).arbiter x o, ne_eqb x j o, replying_other st.down s j m t x (λ z e. o e)) (i.pairs t x)

-- ---- Down

-- the station collected from j and has now what it waited for
module _ (st : State) (s j : ℕ) (message : Message) (rest : List Message) (d : Delivers st s j (st.down s j) message rest) (i : Invariant st)
    (q : ℕ) (h : Units) (collecting : st.phase s ≡ Collecting q h j)
    (has : Pair (Part.has h) (st.up s j) (units_in s (st.arbiter j).line) ((st.arbiter j).granted s) rest) where
  belongs : member (quorum st.table q) j ≡ true
  unfolding approaches
  belongs = rw collecting at (i.members s)

  exists : q < length st.table
  unfolding phase_in
  exists = ltb-true q (length st.table) (and_left (ltb q (length st.table)) _ (rw collecting at ((ranged st d.range).phases s d.station)))

  before : (x : ℕ) → Pair (wants st.table (i.leaving s) (Collecting q h j) x) (st.up s x) (units_in s (st.arbiter x).line) ((st.arbiter x).granted s) (st.down s x)
  before x = rw collecting at (i.pairs s x)

  asks-keeps : (m : ℕ) → Lowest_member st.n (quorum st.table q) (suc j) m → Invariant (received_as st s j rest (Taken.asks q h m))
  unfolding received_as approaches
  asks-keeps m low =
      record {
        leaving = i.leaving;
        pairs = λ t x. by_cases (ℕ_discrete t s) (λ (e : t ≡ s). rw (e, at_same st.phase s (Collecting q h m), at_same st.up s _, at_same st.down s _) (own x)) (λ (o : t ≡ s → ⊥).
            rw (at_other st.phase s (Collecting q h m) t o, at_other st.up s _ t o, at_other st.down s _ t o) (i.pairs t x));
        stock = i.stock;
        members = λ t. at_all (λ p. approaches st.n st.table (i.leaving t) p ≡ true) st.phase s (Collecting q h m) low.belongs t (i.members t);
      }
    where
      lane : ℕ → List Message
      lane x = at (st.up s) m (sent (st.up s m) (Request h)) x

      lane-down : ℕ → List Message
      lane-down x = at (st.down s) j rest x

      own : (x : ℕ) → Pair (wants st.table (i.leaving s) (Collecting q h m) x) (lane x) (units_in s (st.arbiter x).line) ((st.arbiter x).granted s) (lane-down x)
      own x =
          by_cases (ℕ_discrete x j)
          (λ (e : x ≡ j). rw (e, at_same (st.down s) j rest, at_other (st.up s) m _ j (λ z. omega (arith, low.from)), wants_below st.table (i.leaving s) q h m j low.from, share_member st.table q h j belongs) has)
          (λ (o : x ≡ j → ⊥). rw (at_other (st.down s) j rest x o) (
          by_cases (ℕ_discrete x m)
          (λ (e : x ≡ m). rw (e, at_same (st.up s) m _, wants_here st.table (i.leaving s) q h m) (sends-request (rw (wants_above st.table (i.leaving s) q h j m low.from) at (before m))))
          (λ (o' : x ≡ m → ⊥). rw (at_other (st.up s) m _ x o', wants_next st.table (i.leaving s) q h j m low.from low.before x o o') (before x))))

  holds-keeps : ((x : ℕ) → suc j ≤ x → member (quorum st.table q) x ≡ false) → Invariant (received_as st s j rest (Taken.holds q h))
  unfolding received_as approaches
  holds-keeps none =
      record {
        leaving = i.leaving;
        pairs = λ t x. by_cases (ℕ_discrete t s) (λ (e : t ≡ s). rw (e, at_same st.phase s (Holding q h), at_same st.down s _) (own x)) (λ (o : t ≡ s → ⊥).
            rw (at_other st.phase s (Holding q h) t o, at_other st.down s _ t o) (i.pairs t x));
        stock = i.stock;
        members = λ t. at_all (λ p. approaches st.n st.table (i.leaving t) p ≡ true) st.phase s (Holding q h) refl t (i.members t);
      }
    where
      own : (x : ℕ) → Pair (wants st.table (i.leaving s) (Holding q h) x) (st.up s x) (units_in s (st.arbiter x).line) ((st.arbiter x).granted s) (at (st.down s) j rest x)
      own x =
          by_cases (ℕ_discrete x j)
          (λ (e : x ≡ j). rw (e, at_same (st.down s) j rest, wants_holding st.table (i.leaving s) q h j, share_member st.table q h j belongs) has)
          (λ (o : x ≡ j → ⊥). rw (at_other (st.down s) j rest x o, wants_all st.table (i.leaving s) q h j none x o) (before x))

  grant_keeps : Invariant (received_as st s j rest (taken st.table j (st.phase s)))
  unfolding taken
  grant_keeps =
      rw (collecting, eq-eqb j j refl)
      (onward_as st.n st.stock st.table (ranged st d.range).limits q exists (λ t. Invariant (received_as st s j rest t)) h j
      (λ low. asks-keeps (lowest_from (quorum st.table q) (suc j)) low) (λ l none. holds-keeps none))

-- or it withdraws, and drops a GRANT
drops-keeps : (st : State) (s j : ℕ) (rest : List Message) (i : Invariant st)
    → Pair (wants st.table (i.leaving s) (st.phase s) j) (st.up s j) (units_in s (st.arbiter j).line) ((st.arbiter j).granted s) rest
    → Invariant (received_as st s j rest Taken.drops)
unfolding received_as
drops-keeps st s j rest i left =
    record {
      leaving = i.leaving;
      pairs = λ t x. by_cases (ℕ_discrete t s) (λ (e : t ≡ s). rw (e, at_same st.down s _) (own x)) (λ (o : t ≡ s → ⊥). rw (at_other st.down s _ t o) (i.pairs t x));
      stock = i.stock;
      members = i.members;
    }
  where
    own : (x : ℕ) → Pair (wants st.table (i.leaving s) (st.phase s) x) (st.up s x) (units_in s (st.arbiter x).line) ((st.arbiter x).granted s) (at (st.down s) j rest x)
    own x = by_cases (ℕ_discrete x j) (λ (e : x ≡ j). rw (e, at_same (st.down s) j rest) left) (λ (o : x ≡ j → ⊥). rw (at_other (st.down s) j rest x o) (i.pairs s x))

-- or it withdraws, and GONE makes it idle
idles-keeps : (st : State) (s j : ℕ) (rest : List Message) (i : Invariant st) → st.phase s ≡ Withdrawing → j ≡ i.leaving s
    → Pair Part.nothing (st.up s j) (units_in s (st.arbiter j).line) ((st.arbiter j).granted s) rest
    → Invariant (received_as st s j rest Taken.idles)
unfolding received_as approaches wants
idles-keeps st s j rest i withdrawing left-j left =
    record {
      leaving = i.leaving;
      pairs = λ t x. by_cases (ℕ_discrete t s) (λ (e : t ≡ s). rw (e, at_same st.phase s Idle, at_same st.down s _) (own x)) (λ (o : t ≡ s → ⊥).
          rw (at_other st.phase s Idle t o, at_other st.down s _ t o) (i.pairs t x));
      stock = i.stock;
      members = λ t. at_all (λ p. approaches st.n st.table (i.leaving t) p ≡ true) st.phase s Idle refl t (i.members t);
    }
  where
    own : (x : ℕ) → Pair Part.nothing (st.up s x) (units_in s (st.arbiter x).line) ((st.arbiter x).granted s) (at (st.down s) j rest x)
    own x =
        by_cases (ℕ_discrete x j) (λ (e : x ≡ j). rw (e, at_same (st.down s) j rest) left)
        (λ (o : x ≡ j → ⊥). rw (at_other (st.down s) j rest x o)
        (rw (withdrawing, wants_others st.table (i.leaving s) x (λ z. o (z ∙ sym left-j))) at (i.pairs s x)))

pub down-keeps : (st : State) (s j : ℕ) (m : Message) (rest : List Message) → Delivers st s j (st.down s j) m rest → Invariant st → Invariant (received_as st s j rest (taken_at st s j m))
unfolding taken left
down-keeps st s j m rest d i = go m d (wants st.table (i.leaving s) (st.phase s) j) refl (takes (rw d.taken at (i.pairs s j)))
  where
    go : (m : Message) → Delivers st s j (st.down s j) m rest → (p : Part) → wants st.table (i.leaving s) (st.phase s) j ≡ p
        → Takes (st.up s j) (units_in s (st.arbiter j).line) ((st.arbiter j).granted s) rest p m → Invariant (received_as st s j rest (taken_at st s j m))
    go m d p w (Takes.takes_grant {h} has) =
        let (q, collecting) = waits_for st.table (i.leaving s) (st.phase s) j h w in
        grant_keeps st s j Grant rest d i q h collecting has
    go m d p w (Takes.drops_grant pair) =
        let (withdrawing, here) = leaves_from st.table (i.leaving s) (st.phase s) j w in
        rw withdrawing (drops-keeps st s j rest i (rw w pair))
    go m d p w (Takes.takes_gone pair) =
        let (withdrawing, here) = leaves_from st.table (i.leaving s) (st.phase s) j w in
        rw withdrawing (idles-keeps st s j rest i withdrawing here pair)

-- ---- Release

module _ (st : State) (s q : ℕ) (h : Units) (r : Releases st s q h) (i : Invariant st) where
  pub release-keeps : Invariant (given_back st s q)
  unfolding given_back approaches wants
  release-keeps =
      record {
        leaving = i.leaving;
        pairs = λ t x. by_cases (ℕ_discrete t s) (λ (e : t ≡ s). rw (e, at_same st.phase s Idle, at_same st.up s _) (own x)) (λ (o : t ≡ s → ⊥).
            rw (at_other st.phase s Idle t o, at_other st.up s _ t o) (i.pairs t x));
        stock = i.stock;
        members = λ t. at_all (λ p. approaches st.n st.table (i.leaving t) p ≡ true) st.phase s Idle refl t (i.members t);
      }
    where
      before : (x : ℕ) → Pair (share st.table q h x) (st.up s x) (units_in s (st.arbiter x).line) ((st.arbiter x).granted s) (st.down s x)
      before x = rw r.holding at (i.pairs s x)

      own : (x : ℕ) → Pair Part.nothing (releasing (quorum st.table q) (st.up s) x) (units_in s (st.arbiter x).line) ((st.arbiter x).granted s) (st.down s x)
      own x =
          ⊎_elim (λ (b : member (quorum st.table q) x ≡ true). rw (releasing-member (quorum st.table q) (st.up s) x b) (sends-release (rw (share_member st.table q h x b) at (before x))))
          (λ (b : member (quorum st.table q) x ≡ false). rw (releasing_other (quorum st.table q) (st.up s) x b) (rw (share_other st.table q h x b) at (before x)))
          (cases_Bool (member (quorum st.table q) x))
