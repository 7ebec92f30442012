-- Lines of standard error that were written out by hand, held against the definition by computing.
use Rattle.std.specs.Prelude.{◌≡◌, codes}
use Rattle.std.proofs.Common.{refl}
use Rattle.std.specs.Fmt.{digits}
use Rattle.jl_base.specs.declared.place.Fault.{Fault}
use Rattle.jl_base.specs.declared.kind.Kind.TheVariants.{NoEntry}
use Rattle.jl_text.specs.declared.notice.Notice.TheVariants.{Malformed, Usage, ReadFault, WriteFault, NoMemory, TooLong, TooWide}
use Rattle.jl_text.specs.Notices.{notice_line}

abbrev fault : Fault
fault = record { place = record { frame = 3; row = 1 }; kind = NoEntry }

malformed : notice_line (Malformed 2 fault) ≡ codes "jellyp: malformed: file 2, frame 3, row 1: NoEntry\n"
unfolding digits
malformed = refl

usage : notice_line Usage ≡ codes "usage: jellyp COMMAND [--NAME=VALUE]... [FILE]...\n"
usage = refl

read_fault : notice_line (ReadFault 16) ≡ codes "jellyp: read fault: file 16\n"
unfolding digits
read_fault = refl

write_fault : notice_line WriteFault ≡ codes "jellyp: write fault\n"
write_fault = refl

no_memory : notice_line NoMemory ≡ codes "jellyp: no memory\n"
no_memory = refl

too_long : notice_line TooLong ≡ codes "jellyp: too long\n"
too_long = refl

too_wide : notice_line (TooWide 18446744073709551615) ≡ codes "jellyp: item 18446744073709551615 too wide\n"
unfolding digits
too_wide = refl
