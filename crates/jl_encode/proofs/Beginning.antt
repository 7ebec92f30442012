-- A new encoder stands for no items.
use Rattle.std.proofs.Common.{◌≡◌, false, [], ◌∷◌, refl, ap, sym, subst}
use Rattle.jl_encoding.specs.Limits.{most_names, most_prefixes, most_datatypes}
use Rattle.jl_spell.specs.Frames.{body_of}
use Rattle.jl_encoding.specs.declared.form.Form.{Form}
use Rattle.jl_encoding.specs.Items.{with_items}
use Rattle.jl_encoding.specs.Wide.{wide_from}
use Rattle.jl_encoding.specs.Encoding.{options_of, first_row, each_item}
use Rattle.jl_encoding.specs.Handed.{under_way}
use Rattle.jl_encode.specs.Desks.{Desk, new_desk}
use Rattle.jl_encode.specs.Putting.{Lasts}
use Rattle.jl_encode.specs.InStep.{no_lasts}
use Rattle.jl_encode.specs.Standing.{Agrees}
use Rattle.jl_encode.specs.Answers.{Progress, Stands}
use Rattle.jl_encode.proofs.FirstDesk.{new_desk_agrees}

agrees_by_form : (form : Form) → Agrees (options_of form) (first_row form ∷ []) (new_desk most_names most_prefixes most_datatypes) no_lasts
agrees_by_form Form.Triples = new_desk_agrees (options_of Form.Triples) (options_of Form.Triples)
agrees_by_form Form.Quads = new_desk_agrees (options_of Form.Quads) (options_of Form.Quads)

pub new_stands : (e : Progress) → e.desk ≡ new_desk most_names most_prefixes most_datatypes → e.lasts ≡ no_lasts → e.body ≡ body_of (first_row e.form ∷ []) → e.count ≡ 0 → e.spent ≡ false → Stands e []
unfolding with_items each_item wide_from under_way
new_stands e desk lasts body count alive = record {
  alive = alive;
  fit = tt;
  proper = tt;
  narrow = refl;
  history = first_row e.form ∷ [];
  behind = refl;
  agrees =
      subst (λ (d : Desk). Agrees (options_of e.form) (first_row e.form ∷ []) d e.lasts) (sym desk)
      (subst (λ (l : Lasts). Agrees (options_of e.form) (first_row e.form ∷ []) (new_desk most_names most_prefixes most_datatypes) l) (sym lasts) (agrees_by_form e.form));
  number = ap (λ (d : Desk). d.item) desk;
  rows = [];
  are = refl;
  body = body;
  count = count;
}
