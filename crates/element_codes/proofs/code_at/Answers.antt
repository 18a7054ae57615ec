-- An entry of the printed table, and past its end none, as `get` and `unwrap_or` say. Assumes nothing.
use mathlib.Core.Path.{ap, ◌∙◌}
use native.Mathlib.Nat.{le_refl}
use Rattle.std.specs.Prelude.{ℕ, Option}
use Rattle.std.specs.Option.{unwrap_or}
use Rattle.std.specs.Slice.{IsItemAt}
use Rattle.element_codes.specs.Elements.{codes, code_at}
use Rattle.element_codes.proofs.code_at.Goals as goal

pub returns : goal.returns
unfolding codes code_at
returns c =
    let at : IsItemAt codes c.args.row c.get.result = c.get.ensures.lookup in
    c.unwrap_or.ensures ∙ ap (λ (o : Option ℕ). unwrap_or o 0) c.copied.ensures ∙ at.4 (le_refl c.args.row) 0
