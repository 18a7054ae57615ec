-- One deed more at the end of a day: which numbers are opened and closed, which event a number has, and which complete records there are. Each law
-- goes through the deeds before it. Assumes nothing.
use Prim.Native.Nat.{ℕ}
use mathlib.Core.Path.{◌≡◌, refl, ap, ◌∙◌, sym}
use mathlib.Core.Logic.{◌≢◌}
use mathlib.Core.List.{List, [], ◌∷◌, ◌++◌, map, append-nil}
use mathlib.Core.Bool.{Bool, true, false, cond}
use lib.Dec.{eqb}
use borrow.Author.Tests.{eq-eqb, ne_eqb}
use Rattle.base.specs.Lists.{All}
use Rattle.base.proofs.ListLaws.{all_map, all_snoc}
use Rattle.annex.specs.declared.Step.{Step}
use Rattle.fields.specs.declared.Head.{Head}
use Rattle.desk_days.specs.Story.{Deed, opens, steps, closes, takes, SteppedEvent, head_for, steps_for, event_for, openings, closings, names, about, open_deeds, record_of, complete_in, Once}

-- numbers of which none stands twice stay so with another one at the end
pub once_snoc : (vs : List ℕ) (w : ℕ) → Once vs → All (λ v. w ≢ v) vs → Once (vs ++ w ∷ [])
once_snoc [] w o a = (tt, tt)
once_snoc (v ∷ vs) w o a = (all_snoc (λ u. u ≢ v) vs w o.0 a.0, once_snoc vs w o.1 a.1)

-- ---- the numbers that the desk's deeds name

abbrev pub named : List Deed → List ℕ
named [] = []
named (opens h ∷ ds) = h.number ∷ named ds
named (steps w st ∷ ds) = w ∷ named ds
named (closes w ∷ ds) = w ∷ named ds
named (takes s ∷ ds) = named ds

-- the numbers named and opened, with one deed more at the end, and those closed, with any deeds
pub named_snoc : (ds : List Deed) (d : Deed) → named (ds ++ d ∷ []) ≡ named ds ++ named (d ∷ [])
named_snoc [] d = refl
named_snoc (opens h ∷ ds) d = ap (λ vs. h.number ∷ vs) (named_snoc ds d)
named_snoc (steps w st ∷ ds) d = ap (λ vs. w ∷ vs) (named_snoc ds d)
named_snoc (closes w ∷ ds) d = ap (λ vs. w ∷ vs) (named_snoc ds d)
named_snoc (takes s ∷ ds) d = named_snoc ds d

pub closings_append : (ds es : List Deed) → closings (ds ++ es) ≡ closings ds ++ closings es
closings_append [] es = refl
closings_append (opens h ∷ ds) es = closings_append ds es
closings_append (steps w st ∷ ds) es = closings_append ds es
closings_append (closes w ∷ ds) es = ap (λ vs. w ∷ vs) (closings_append ds es)
closings_append (takes s ∷ ds) es = closings_append ds es

pub openings_snoc : (ds : List Deed) (d : Deed) → openings (ds ++ d ∷ []) ≡ openings ds ++ openings (d ∷ [])
openings_snoc [] d = refl
openings_snoc (opens h ∷ ds) d = ap (λ vs. h.number ∷ vs) (openings_snoc ds d)
openings_snoc (steps w st ∷ ds) d = openings_snoc ds d
openings_snoc (closes w ∷ ds) d = openings_snoc ds d
openings_snoc (takes s ∷ ds) d = openings_snoc ds d

-- what holds of every number named holds of every number closed, and of every number opened
pub closings_named : (P : ℕ → Type 0) (ds : List Deed) → All P (named ds) → All P (closings ds)
closings_named P [] a = tt
closings_named P (opens h ∷ ds) a = closings_named P ds a.1
closings_named P (steps w st ∷ ds) a = closings_named P ds a.1
closings_named P (closes w ∷ ds) a = (a.0, closings_named P ds a.1)
closings_named P (takes s ∷ ds) a = closings_named P ds a

pub openings_named : (P : ℕ → Type 0) (ds : List Deed) → All P (named ds) → All P (openings ds)
openings_named P [] a = tt
openings_named P (opens h ∷ ds) a = (a.0, openings_named P ds a.1)
openings_named P (steps w st ∷ ds) a = openings_named P ds a.1
openings_named P (closes w ∷ ds) a = openings_named P ds a.1
openings_named P (takes s ∷ ds) a = openings_named P ds a

-- ---- the event of a number

-- a deed of another number than v, or of none
abbrev pub Spares : ℕ → Deed → Type 0
Spares v (opens h) = h.number ≢ v
Spares v (steps w st) = w ≢ v
Spares v (closes w) = w ≢ v
Spares v (takes s) = Unit {0}

grown : {A : Type 0} (t : Bool) (x : A) (a b : List A) → cond t (x ∷ a) a ++ b ≡ cond t (x ∷ (a ++ b)) (a ++ b)
grown true x a b = refl
grown false x a b = refl

steps_snoc : (v : ℕ) (ds : List Deed) (d : Deed) → steps_for v (ds ++ d ∷ []) ≡ steps_for v ds ++ steps_for v (d ∷ [])
steps_snoc v [] d = refl
steps_snoc v (opens h ∷ ds) d = steps_snoc v ds d
steps_snoc v (steps w st ∷ ds) d =
    ap (λ ss. cond (eqb w v) (st ∷ ss) ss) (steps_snoc v ds d) ∙ sym (grown (eqb w v) st (steps_for v ds) (steps_for v (d ∷ [])))
steps_snoc v (closes w ∷ ds) d = steps_snoc v ds d
steps_snoc v (takes s ∷ ds) d = steps_snoc v ds d

-- the head stays, unless it was to be found in the new deed
head_snoc : (v : ℕ) (ds : List Deed) (d : Deed) → head_for v (d ∷ []) ≡ head_for v [] → head_for v (ds ++ d ∷ []) ≡ head_for v ds
head_snoc v [] d e = e
head_snoc v (opens h ∷ ds) d e = ap (λ x. cond (eqb h.number v) h x) (head_snoc v ds d e)
head_snoc v (steps w st ∷ ds) d e = head_snoc v ds d e
head_snoc v (closes w ∷ ds) d e = head_snoc v ds d e
head_snoc v (takes s ∷ ds) d e = head_snoc v ds d e

spared_head : (v : ℕ) (d : Deed) → Spares v d → head_for v (d ∷ []) ≡ head_for v []
spared_head v (opens h) n = ap (λ t. cond t h (head_for v [])) (ne_eqb h.number v n)
spared_head v (steps w st) n = refl
spared_head v (closes w) n = refl
spared_head v (takes s) n = refl

spared_steps : (v : ℕ) (d : Deed) → Spares v d → steps_for v (d ∷ []) ≡ []
spared_steps v (opens h) n = refl
spared_steps v (steps w st) n = ap (λ t. cond t (st ∷ []) []) (ne_eqb w v n)
spared_steps v (closes w) n = refl
spared_steps v (takes s) n = refl

-- a deed that spares v leaves its event
pub event_spared : (v : ℕ) (ds : List Deed) (d : Deed) → Spares v d → event_for (ds ++ d ∷ []) v ≡ event_for ds v
event_spared v ds d n =
    let ss : steps_for v (ds ++ d ∷ []) ≡ steps_for v ds =
    steps_snoc v ds d ∙ ap (λ x. steps_for v ds ++ x) (spared_steps v d n) ∙ append-nil (steps_for v ds) in
    λ i. record { head = head_snoc v ds d (spared_head v d n) i; steps = ss i }

-- so does its close
pub event_closed : (v w : ℕ) (ds : List Deed) → event_for (ds ++ closes w ∷ []) v ≡ event_for ds v
event_closed v w ds =
    let ss : steps_for v (ds ++ closes w ∷ []) ≡ steps_for v ds = steps_snoc v ds (closes w) ∙ append-nil (steps_for v ds) in
    λ i. record { head = head_snoc v ds (closes w) refl i; steps = ss i }

-- a step of v is the last of its event
abbrev pub with_last : SteppedEvent → Step → SteppedEvent
with_last e st = record { head = e.head; steps = e.steps ++ st ∷ [] }

pub event_stepped : (v : ℕ) (ds : List Deed) (st : Step) → event_for (ds ++ steps v st ∷ []) v ≡ with_last (event_for ds v) st
event_stepped v ds st =
    let ss : steps_for v (ds ++ steps v st ∷ []) ≡ steps_for v ds ++ st ∷ [] =
    steps_snoc v ds (steps v st) ∙ ap (λ t. steps_for v ds ++ cond t (st ∷ []) []) (eq-eqb v v refl) in
    λ i. record { head = head_snoc v ds (steps v st) refl i; steps = ss i }

-- the open of a number that no deed has named begins its event
fresh_head : (h : Head) (ds : List Deed) → All (λ w. w ≢ h.number) (named ds) → head_for h.number (ds ++ opens h ∷ []) ≡ h
fresh_head h [] a = ap (λ t. cond t h (head_for h.number [])) (eq-eqb h.number h.number refl)
fresh_head h (opens g ∷ ds) a =
    ap (λ t. cond t g (head_for h.number (ds ++ opens h ∷ []))) (ne_eqb g.number h.number a.0) ∙ fresh_head h ds a.1
fresh_head h (steps w st ∷ ds) a = fresh_head h ds a.1
fresh_head h (closes w ∷ ds) a = fresh_head h ds a.1
fresh_head h (takes s ∷ ds) a = fresh_head h ds a

fresh_steps : (v : ℕ) (ds : List Deed) → All (λ w. w ≢ v) (named ds) → steps_for v ds ≡ []
fresh_steps v [] a = refl
fresh_steps v (opens g ∷ ds) a = fresh_steps v ds a.1
fresh_steps v (steps w st ∷ ds) a = ap (λ t. cond t (st ∷ steps_for v ds) (steps_for v ds)) (ne_eqb w v a.0) ∙ fresh_steps v ds a.1
fresh_steps v (closes w ∷ ds) a = fresh_steps v ds a.1
fresh_steps v (takes s ∷ ds) a = fresh_steps v ds a

-- its event has the head of the open, and no step
pub event_opened :
    (h : Head) (ds : List Deed) →
    All (λ w. w ≢ h.number) (named ds) →
    event_for (ds ++ opens h ∷ []) h.number ≡ record { head = h; steps = [] }
event_opened h ds a =
    let ss : steps_for h.number (ds ++ opens h ∷ []) ≡ [] =
    steps_snoc h.number ds (opens h) ∙ append-nil (steps_for h.number ds) ∙ fresh_steps h.number ds a in
    λ i. record { head = fresh_head h ds a i; steps = ss i }

-- ---- the deeds of a number

about_snoc : (v : ℕ) (ds : List Deed) (d : Deed) → about v (ds ++ d ∷ []) ≡ about v ds ++ about v (d ∷ [])
about_snoc v [] d = refl
about_snoc v (x ∷ ds) d = ap (λ xs. cond (names v x) (x ∷ xs) xs) (about_snoc v ds d) ∙ sym (grown (names v x) x (about v ds) (about v (d ∷ [])))

spared_name : (v : ℕ) (d : Deed) → Spares v d → names v d ≡ false
spared_name v (opens h) n = ne_eqb h.number v n
spared_name v (steps w st) n = ne_eqb w v n
spared_name v (closes w) n = ne_eqb w v n
spared_name v (takes s) n = refl

-- a deed that spares v is none of v's
pub about_spared : (v : ℕ) (ds : List Deed) (d : Deed) → Spares v d → about v (ds ++ d ∷ []) ≡ about v ds
about_spared v ds d n = about_snoc v ds d ∙ ap (λ t. about v ds ++ cond t (d ∷ []) []) (spared_name v d n) ∙ append-nil (about v ds)

about_named : (v : ℕ) (ds : List Deed) (d : Deed) → names v d ≡ true → about v (ds ++ d ∷ []) ≡ about v ds ++ d ∷ []
about_named v ds d e = about_snoc v ds d ∙ ap (λ t. about v ds ++ cond t (d ∷ []) []) e

fresh_about : (v : ℕ) (ds : List Deed) → All (λ w. w ≢ v) (named ds) → about v ds ≡ []
fresh_about v [] a = refl
fresh_about v (opens g ∷ ds) a = ap (λ t. cond t (opens g ∷ about v ds) (about v ds)) (ne_eqb g.number v a.0) ∙ fresh_about v ds a.1
fresh_about v (steps w st ∷ ds) a = ap (λ t. cond t (steps w st ∷ about v ds) (about v ds)) (ne_eqb w v a.0) ∙ fresh_about v ds a.1
fresh_about v (closes w ∷ ds) a = ap (λ t. cond t (closes w ∷ about v ds) (about v ds)) (ne_eqb w v a.0) ∙ fresh_about v ds a.1
fresh_about v (takes s ∷ ds) a = fresh_about v ds a

map_snoc : {A B : Type 0} (f : A → B) (xs : List A) (y : A) → map f (xs ++ y ∷ []) ≡ map f xs ++ f y ∷ []
map_snoc f [] y = refl
map_snoc f (x ∷ xs) y = ap (λ l. f x ∷ l) (map_snoc f xs y)

-- a number is opened,
pub order_opened :
    (h : Head) (ds : List Deed) →
    All (λ w. w ≢ h.number) (named ds) →
    about h.number (ds ++ opens h ∷ []) ≡ open_deeds h.number (record { head = h; steps = [] })
order_opened h ds a =
    about_named h.number ds (opens h) (eq-eqb h.number h.number refl) ∙
    ap (λ xs. xs ++ opens h ∷ []) (fresh_about h.number ds a)

-- has its steps one after the other,
pub order_stepped :
    (v : ℕ) (ds : List Deed) (e : SteppedEvent) (st : Step) →
    about v ds ≡ open_deeds v e →
    about v (ds ++ steps v st ∷ []) ≡ open_deeds v (with_last e st)
order_stepped v ds e st o =
    about_named v ds (steps v st) (eq-eqb v v refl) ∙
    ap (λ xs. xs ++ steps v st ∷ []) o ∙
    ap (λ xs. opens e.head ∷ xs) (sym (map_snoc (λ x. steps v x) e.steps st))

-- and is closed
pub order_closed : (v : ℕ) (ds : List Deed) (e : SteppedEvent) → about v ds ≡ open_deeds v e → about v (ds ++ closes v ∷ []) ≡ open_deeds v e ++ closes v ∷ []
order_closed v ds e o = about_named v ds (closes v) (eq-eqb v v refl) ∙ ap (λ xs. xs ++ closes v ∷ []) o

-- ---- the complete records

-- with further deeds at the end
pub complete_append : (all ds es : List Deed) → complete_in all (ds ++ es) ≡ complete_in all ds ++ complete_in all es
complete_append all [] es = refl
complete_append all (opens h ∷ ds) es = complete_append all ds es
complete_append all (steps w st ∷ ds) es = complete_append all ds es
complete_append all (closes w ∷ ds) es = ap (λ rs. record_of (event_for all w) ∷ rs) (complete_append all ds es)
complete_append all (takes s ∷ ds) es = ap (λ rs. s ∷ rs) (complete_append all ds es)

-- and with the same event for each number closed
pub complete_same : (a b ds : List Deed) → All (λ v. event_for a v ≡ event_for b v) (closings ds) → complete_in a ds ≡ complete_in b ds
complete_same a b [] e = refl
complete_same a b (opens h ∷ ds) e = complete_same a b ds e
complete_same a b (steps w st ∷ ds) e = complete_same a b ds e
complete_same a b (closes w ∷ ds) e = λ i. record_of (e.0 i) ∷ complete_same a b ds e.1 i
complete_same a b (takes s ∷ ds) e = λ i. s ∷ complete_same a b ds e i

-- a deed that spares every closed number leaves the records before it
pub complete_more :
    (ds : List Deed) (d : Deed) →
    All (λ v. Spares v d) (closings ds) →
    complete_in (ds ++ d ∷ []) (ds ++ d ∷ []) ≡ complete_in ds ds ++ complete_in (ds ++ d ∷ []) (d ∷ [])
complete_more ds d a =
    complete_append (ds ++ d ∷ []) ds (d ∷ []) ∙
    ap (λ rs. rs ++ complete_in (ds ++ d ∷ []) (d ∷ []))
    (complete_same (ds ++ d ∷ []) ds ds (all_map (λ v n. event_spared v ds d n) (closings ds) a))
