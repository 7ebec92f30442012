-- The worked rows, by computing.
use Rattle.std.proofs.Common.{refl}
use Rattle.jl_rows.specs.History.{slot, seen_in}
use Rattle.jl_rows.specs.Values.{last_term}
use Rattle.jl_spell.specs.Varints.{varint_within, varint_of}
use Rattle.jl_spell.specs.Fields.{field_of}
use Rattle.jl_spell.specs.Messages.{message_of}
use Rattle.jl_spell.specs.Rows.{row_of}
use Rattle.jl_encoding.specs.Slots.{put_text}
use Rattle.jl_encoding.specs.Terms.{put_prefix, put_iri, put_tail, put_term, put_at}
use Rattle.jl_encoding.specs.Items.{item_rows}
use Rattle.jl_encoding.specs.Wide.{wide_from}
use Rattle.jl_encoding.specs.Encoding.{each_item, cut, encoding}
use Rattle.jl_encoding.specs.WorkedRows.{MadeRows, NoItems, MadeFile, TwoToAFrame, EmptyPrefixLater, PassesOver, ThreeNames, TwoPrefixes, NoDatatypes, MadeFits}

pub made_rows : MadeRows
unfolding each_item item_rows put_at put_term put_tail put_iri put_prefix put_text slot seen_in last_term
made_rows = refl

pub no_items : NoItems
unfolding encoding each_item row_of message_of field_of varint_of varint_within
no_items = refl

pub made_file : MadeFile
unfolding encoding cut each_item item_rows put_at put_term put_tail put_iri put_prefix put_text slot seen_in last_term row_of message_of field_of varint_of varint_within
made_file = refl

pub two_to_a_frame : TwoToAFrame
unfolding encoding cut each_item item_rows put_at put_term slot seen_in last_term row_of message_of field_of varint_of varint_within
two_to_a_frame = refl

pub empty_prefix_later : EmptyPrefixLater
unfolding each_item item_rows put_at put_term put_tail put_iri put_prefix put_text slot seen_in last_term
empty_prefix_later = refl

pub passes_over : PassesOver
unfolding item_rows put_at put_term put_iri put_prefix put_text slot seen_in last_term
passes_over = refl

pub three_names : ThreeNames
unfolding last_term
three_names = refl

pub two_prefixes : TwoPrefixes
unfolding last_term
two_prefixes = refl

pub no_datatypes : NoDatatypes
unfolding wide_from last_term
no_datatypes = refl

pub made_fits : MadeFits
unfolding wide_from item_rows put_at put_term put_tail put_iri put_prefix put_text slot seen_in last_term row_of message_of field_of varint_of varint_within
made_fits = refl
