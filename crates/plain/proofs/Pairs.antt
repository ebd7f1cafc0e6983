-- A station and an arbiter: what stands in their lanes, in the line and among the grants, and how each message changes it.
-- Assumes nothing.
use mathlib.Core.List.{List, [], ◌∷◌, ◌++◌, map, append-nil}
use mathlib.Core.Path.{◌≡◌, refl}
use Rattle.units.specs.Units.{no_units}
use Rattle.units.specs.declared.Units.{Units}
use Rattle.plain.specs.Lanes.{sent}
use Rattle.plain.specs.declared.Message.{Message}
use Rattle.plain.specs.declared.Message.TheVariants.{Request, Release, Grant, Withdraw, Gone}

-- what a station wants of an arbiter: nothing, it waits for so many units, it has them, or it waits for GONE
pub data Part : Type 0 where
  nothing : Part
  waits : Units → Part
  has : Units → Part
  leaves : Part

-- what it wants; then the lane up, its units in the line, its units granted, the lane down
pub data Pair : Part → List Message → List Units → Units → List Message → Type 0 where
  clear : Pair Part.nothing [] [] no_units []
  gave_back : {g : Units} → Pair Part.nothing (Release ∷ []) [] g []
  asked : {h : Units} → Pair (Part.waits h) (Request h ∷ []) [] no_units []
  asked_again : {h g : Units} → Pair (Part.waits h) (Release ∷ Request h ∷ []) [] g []
  in_line : {h : Units} → Pair (Part.waits h) [] (h ∷ []) no_units []
  granted : {h : Units} → Pair (Part.waits h) [] [] h (Grant ∷ [])
  keeps : {h : Units} → Pair (Part.has h) [] [] h []
  left-asked : {h : Units} → Pair Part.leaves (Request h ∷ Withdraw ∷ []) [] no_units []
  left-asked_again : {h g : Units} → Pair Part.leaves (Release ∷ Request h ∷ Withdraw ∷ []) [] g []
  left_in-line : {h : Units} → Pair Part.leaves (Withdraw ∷ []) (h ∷ []) no_units []
  left-granted : {h : Units} → Pair Part.leaves (Withdraw ∷ []) [] h (Grant ∷ [])
  left_having : {h : Units} → Pair Part.leaves (Withdraw ∷ []) [] h []
  gone : Pair Part.leaves [] [] no_units (Gone ∷ [])
  granted_gone : Pair Part.leaves [] [] no_units (Grant ∷ Gone ∷ [])

-- ---- at the station

-- it sends REQUEST
pub sends-request : {w : List Units} {g h : Units} {up down : List Message} → Pair Part.nothing up w g down → Pair (Part.waits h) (sent up (Request h)) w g down
sends-request Pair.clear = Pair.asked
sends-request Pair.gave_back = Pair.asked_again

-- it takes a message: a GRANT, where it was waiting, and has now what it waited for; a GRANT that it drops, where it has withdrawn; or GONE,
-- and wants nothing any more
pub data Takes (up : List Message) (w : List Units) (g : Units) (down : List Message) : Part → Message → Type 0 where
  takes_grant : {h : Units} → Pair (Part.has h) up w g down → Takes up w g down (Part.waits h) Grant
  drops_grant : Pair Part.leaves up w g down → Takes up w g down Part.leaves Grant
  takes_gone : Pair Part.nothing up w g down → Takes up w g down Part.leaves Gone

pub takes : {p : Part} {w : List Units} {g : Units} {up down : List Message} {m : Message} → Pair p up w g (m ∷ down) → Takes up w g down p m
takes Pair.granted = Takes.takes_grant Pair.keeps
takes Pair.left-granted = Takes.drops_grant Pair.left_having
takes Pair.gone = Takes.takes_gone Pair.clear
takes Pair.granted_gone = Takes.drops_grant Pair.gone

-- it sends RELEASE
pub sends-release : {w : List Units} {g h : Units} {up down : List Message} → Pair (Part.has h) up w g down → Pair Part.nothing (sent up Release) w g down
sends-release Pair.keeps = Pair.gave_back

-- it sends WITHDRAW
pub sends-withdraw : {w : List Units} {g h : Units} {up down : List Message} → Pair (Part.waits h) up w g down → Pair Part.leaves (sent up Withdraw) w g down
sends-withdraw Pair.asked = Pair.left-asked
sends-withdraw Pair.asked_again = Pair.left-asked_again
sends-withdraw Pair.in_line = Pair.left_in-line
sends-withdraw Pair.granted = Pair.left-granted

-- what it has is granted
pub has_granted : {w : List Units} {g h : Units} {up down : List Message} → Pair (Part.has h) up w g down → g ≡ h
has_granted Pair.keeps = refl

-- ---- at the arbiter

-- REQUEST arrives
pub request_arrives : {p : Part} {w : List Units} {g h : Units} {up down : List Message} → Pair p (Request h ∷ up) w g down → Pair p up (w ++ (h ∷ [])) g down
request_arrives Pair.asked = Pair.in_line
request_arrives Pair.left-asked = Pair.left_in-line

-- RELEASE arrives
pub release_arrives : {p : Part} {w : List Units} {g : Units} {up down : List Message} → Pair p (Release ∷ up) w g down → Pair p up w no_units down
release_arrives Pair.gave_back = Pair.clear
release_arrives Pair.asked_again = Pair.asked
release_arrives Pair.left-asked_again = Pair.left-asked

-- WITHDRAW arrives, and GONE goes down
pub withdraw_arrives : {p : Part} {w : List Units} {g : Units} {up down : List Message} → Pair p (Withdraw ∷ up) w g down → Pair p up [] no_units (sent down Gone)
withdraw_arrives Pair.left_in-line = Pair.gone
withdraw_arrives Pair.left-granted = Pair.granted_gone
withdraw_arrives Pair.left_having = Pair.gone

-- the units granted last, or g if none were
abbrev pub last : Units → List Units → Units
last g [] = g
last g (h ∷ hs) = last h hs

-- the units a leave the line, each with a GRANT
pub line-served : {p : Part} {g : Units} {up down : List Message} (a b : List Units) → Pair p up (a ++ b) g down
    → Pair p up b (last g a) (down ++ map (λ h. Grant) a)
line-served [] b x = rw (append-nil _) x
line-served (h ∷ []) [] Pair.in_line = Pair.granted
line-served (h ∷ []) [] Pair.left_in-line = Pair.left-granted
line-served {p = p} {g = g} {up = up} {down = down} (h ∷ []) (_ ∷ _) x = elim x [ ]
line-served {p = p} {g = g} {up = up} {down = down} (h ∷ (_ ∷ _)) b x = elim x [ ]

-- ---- nothing is under way between them

-- a station that waits stands in line
pub still_waits : {w : List Units} {g h : Units} → Pair (Part.waits h) [] w g [] → w ≡ h ∷ []
still_waits Pair.in_line = refl

-- one that is granted units has them
pub still_granted : {p : Part} {w : List Units} {g : Units} → Pair p [] w g [] → (g ≡ no_units → ⊥) → p ≡ Part.has g
still_granted Pair.clear some = absurd (some refl)
still_granted Pair.in_line some = absurd (some refl)
still_granted Pair.keeps some = refl
