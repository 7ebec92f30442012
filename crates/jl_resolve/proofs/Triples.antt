-- A triple term of owned terms.
use Rattle.std.proofs.Common.{◌≡◌, ℕ, List, refl, sym, ◌∙◌}
use Rattle.jl_base.specs.Items.{value_of}
use Rattle.jl_base.specs.declared.term.Three.{Three}
use Rattle.jl_base.specs.declared.term.Term.TheVariants.{Triple}
use Rattle.jl_base.proofs.ItemLemmas.{value_of-triple}
use Rattle.jl_state.specs.KnownTerms.{known_value, AreParts}
use Rattle.jl_state.specs.declared.known.Known.{Known}
use Rattle.jl_state.specs.declared.known.KnownThree.{KnownThree}

pub owned_triple : (bytes : List ℕ) (whole : Known) (held : KnownThree) (three : Three) → AreParts bytes whole held → value_of three.s ≡ known_value bytes held.s → value_of three.p ≡ known_value bytes held.p → value_of three.o ≡ known_value bytes held.o
    → value_of (Triple three) ≡ known_value bytes whole
owned_triple bytes whole held three parts s p o = value_of-triple three ∙ (rw (s, p, o) refl) ∙ sym parts.value
