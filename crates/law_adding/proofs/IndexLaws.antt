-- SAIFI and SAIDI add over event types: their formulas divide by one N, and the sums above the line add. Assumes nothing.
use Prim.Native.Nat.{ℕ, ◌*◌}
use mathlib.Core.Path.{◌≡◌, refl}
use mathlib.Core.Bool.{true}
use native.Mathlib.Omega.{arith}
use Rattle.ratio.specs.Lowest.{lowest_of}
use Rattle.codes.specs.declared.Set.TheVariants.{All, Std}
use Rattle.codes.specs.Codes.{types}
use Rattle.annex.specs.Figure.{Off, Halves}
use Rattle.ledger.specs.declared.Ledger.{Ledger}
use Rattle.ledger.specs.Sound.{sound_ledger}
use Rattle.index.specs.declared.Level.{Level}
use Rattle.index.specs.declared.Index.TheVariants.{Saifi, Saidi}
use Rattle.index.specs.Sums.{customers_of}
use Rattle.index.specs.Index.{formula_of}
use Rattle.index.proofs.IndexLaws.{somebody_answered}
use Rattle.law_adding.specs.Parts.{rest, type_holds, types_hold}
use Rattle.law_adding.specs.Adding.{total_held, IndexAdds}
use Rattle.law_adding.proofs.BookLaws.{served_by_sheet}
use Rattle.law_adding.proofs.TotalLaws.{types_add, rest_adds}
use Rattle.law_adding.proofs.FractionLaws.{lowest_adds, lowest_adds_all}

module _ (l : Ledger) (sound : sound_ledger l ≡ true) (level : Level) (somebody : customers_of l.sheet.totals level ≡ 0 → ⊥) where
  there : l.sheet.there ≡ true
  there = served_by_sheet l sound level somebody

  abbrev n : ℕ
  n = customers_of l.sheet.totals level

  exists : 1 * n ≡ 0 → ⊥
  exists e = somebody (omega (arith, e))

  twice_exists : 2 * n ≡ 0 → ⊥
  twice_exists e = somebody (omega (arith, e))

  -- of a sound ledger: SAIFI adds over the event types where the level, or the network, has customers, and so does SAIDI
  pub saifi_adds : IndexAdds l Saifi level
  saifi_adds =
      record {
        all = lowest_of (formula_of l Saifi level All).top (formula_of l Saifi level All).bottom;
        std = lowest_of (formula_of l Saifi level Std).top (formula_of l Saifi level Std).bottom;
        is_all = somebody_answered l Saifi level All sound there somebody;
        is_std = somebody_answered l Saifi level Std sound there somebody;
        over_one_n = λ ts set. refl;
        exists = λ ts. exists;
        rest_adds =
            lowest_adds (1 * n) exists (total_held Off l level All) (total_held Off l level Std) (types_hold Off l level rest) (rest_adds l level Off);
        types_add =
            lowest_adds_all (1 * n) exists (total_held Off l level All) (type_holds Off l level) types (types_add l level All Off);
      }

  pub saidi_adds : IndexAdds l Saidi level
  saidi_adds =
      record {
        all = lowest_of (formula_of l Saidi level All).top (formula_of l Saidi level All).bottom;
        std = lowest_of (formula_of l Saidi level Std).top (formula_of l Saidi level Std).bottom;
        is_all = somebody_answered l Saidi level All sound there somebody;
        is_std = somebody_answered l Saidi level Std sound there somebody;
        over_one_n = λ ts set. refl;
        exists = λ ts. twice_exists;
        rest_adds =
            lowest_adds (2 * n) twice_exists (total_held Halves l level All) (total_held Halves l level Std) (types_hold Halves l level rest)
            (rest_adds l level Halves);
        types_add =
            lowest_adds_all (2 * n) twice_exists (total_held Halves l level All) (type_holds Halves l level) types (types_add l level All Halves);
      }
