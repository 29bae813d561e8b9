-- `one` meets its contract. Assumes nothing.
use mathlib.Core.Path.{◌∙◌}
use mathlib.Core.List.{[], ◌∷◌}
use native.Mathlib.Omega.{arith}
use Rattle.words.proofs.Terms.{spaces_length}
use Rattle.terms.proofs.Spaces as law
use Rattle.terms.proofs.one.Goals as goal

pub returns : goal.returns
returns c =
    let e = c.from.ensures ∙ law.spaces_one c.args.letter in
    (e, omega (arith, e, spaces_length (c.args.letter ∷ [])))
