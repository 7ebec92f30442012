-- One item more.
use Rattle.std.proofs.Common.{◌≡◌, List, [], ◌∷◌, ◌++◌, ap, ◌∙◌}
use Rattle.std.proofs.lemmas.List.{map-append}
use Rattle.jl_base.specs.Items.{item_of, items_of}
use Rattle.jl_base.specs.Terms.{Item}
use Rattle.jl_base.specs.declared.term.Item as owned

pub one_more : (old new : List owned.Item) (x : owned.Item) (item : Item) → new ≡ old ++ x ∷ [] → item_of x ≡ item → items_of new ≡ items_of old ++ item ∷ []
one_more old new x item pushed is = ap items_of pushed ∙ map-append item_of old (x ∷ []) ∙ ap (λ (i : Item). items_of old ++ i ∷ []) is
