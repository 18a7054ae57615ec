-- Arrivals that are all accepted, one after the other and one list after the other; each of them is among those accepted. Assumes nothing.
use mathlib.Core.Path.{◌≡◌, refl, ap, ◌∙◌, sym, subst}
use mathlib.Core.List.{List, [], ◌∷◌, ◌++◌}
use mathlib.Core.Bool.{cond}
use borrow.Author.Tests.{eq-eqb}
use Rattle.base.specs.Lists.{All}
use Rattle.base.proofs.ListLaws.{all_append}
use Rattle.desk_days.specs.Day.{State, Arrival, answer_to, after, after_all, accepted_of}
use Rattle.desk_days.specs.Late.{answers_to}
use Rattle.desk_days.proofs.AfterLaws.{after_append}
use Rattle.desk_runs.specs.Runs.{Leads}

-- ---- lists that are put together

pub answers_append : (st : State) (xs ys : List Arrival) → answers_to st (xs ++ ys) ≡ answers_to st xs ++ answers_to (after_all st xs) ys
answers_append st [] ys = refl
answers_append st (a ∷ xs) ys = ap (λ ns. answer_to st a ∷ ns) (answers_append (after st a) xs ys)

-- ---- arrivals that lead on

-- the empty list leads nowhere else; an accepted arrival leads on to where the others lead, and one list to where the next leads
pub leads_none : (st : State) → Leads st [] st
leads_none st = record { accepted = tt; ends = refl }

pub leads_one : (st : State) (a : Arrival) (mid : State) (as' : List Arrival) (end : State) → answer_to st a ≡ 0 → after st a ≡ mid → Leads mid as' end → Leads st (a ∷ as') end
leads_one st a mid as' end z e k =
    let on : Leads (after st a) as' end = subst (λ x. Leads x as' end) (sym e) k in
    record { accepted = (z, on.accepted); ends = on.ends }

pub leads_then : (st : State) (xs : List Arrival) (mid : State) (ys : List Arrival) (end : State) → Leads st xs mid → Leads mid ys end → Leads st (xs ++ ys) end
leads_then st xs mid ys end k j =
    let on : Leads (after_all st xs) ys end = subst (λ x. Leads x ys end) (sym k.ends) j in
    record {
      accepted =
          subst (All (λ n. n ≡ 0)) (sym (answers_append st xs ys))
          (all_append (λ n. n ≡ 0) (answers_to st xs) (answers_to (after_all st xs) ys) k.accepted on.accepted);
      ends = after_append st xs ys ∙ on.ends;
    }

-- those that are all accepted are the accepted ones
pub all_taken : (st : State) (as' : List Arrival) → All (λ n. n ≡ 0) (answers_to st as') → accepted_of st as' ≡ as'
all_taken st [] z = refl
all_taken st (a ∷ as') z =
    ap (λ t. cond t (a ∷ accepted_of (after st a) as') (accepted_of (after st a) as')) (eq-eqb (answer_to st a) 0 z.0) ∙
    ap (λ xs. a ∷ xs) (all_taken (after st a) as' z.1)
