-- xsd:string is written as it is.
use Rattle.std.proofs.Common.{◌≡◌, ℕ, List, refl, ap, sym, ◌∙◌}
use Rattle.jl_text.specs.Line.{iri_byte, iri_escaped, xsd_string}

xsd_clean : iri_escaped xsd_string ≡ xsd_string
unfolding iri_byte
xsd_clean = refl

pub clean_if_xsd : (text : List ℕ) → text ≡ xsd_string → iri_escaped text ≡ text
clean_if_xsd text e = ap iri_escaped e ∙ xsd_clean ∙ sym e
