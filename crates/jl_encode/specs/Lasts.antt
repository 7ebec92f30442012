-- What the code's last terms stand for.
use Rattle.std.specs.Option.{option_map}
use Rattle.jl_base.specs.Items.{value_of}
use Rattle.jl_encode.specs.declared.lasts.Lasts as code
use Rattle.jl_encode.specs.Putting.{Lasts}

abbrev pub lasts_of : code.Lasts → Lasts
lasts_of l = record { subject = option_map value_of l.subject; predicate = option_map value_of l.predicate; object = option_map value_of l.object; graph = option_map value_of l.graph }
