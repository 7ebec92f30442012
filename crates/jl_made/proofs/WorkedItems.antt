-- Made items by hand, held against the definition by computing.
use Rattle.std.proofs.Common.{◌≡◌, [], ◌∷◌, codes, refl}
use Rattle.std.specs.Fmt.{digits}
use Rattle.jl_base.specs.Terms.{Tail, Value, Item}
use Rattle.jl_made.specs.Items.{made}

first_two : made 0 2 ≡ Item.Namespace (codes "p0") (codes "http://example.org/v0/")
    ∷ Item.Triple (Value.Iri (codes "http://example.org/v129/n2458")) (Value.Iri (codes "http://example.org/p/26")) (Value.Literal (codes "text 531564") (Tail.Lang (codes "en"))) ∷ []
unfolding digits
first_two = refl

none : made 7 0 ≡ []
none = refl

-- numbers are taken modulo 65536
large_number : made 18446744073709486080 1 ≡ made 0 1
unfolding digits
large_number = refl
