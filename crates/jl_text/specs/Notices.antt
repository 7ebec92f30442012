-- What the tool says on standard error: one line for each way to end other than well.
use Rattle.std.specs.Prelude.{ℕ, List, ◌++◌, codes}
use Rattle.std.specs.Fmt.{decimal}
use Rattle.jl_base.specs.Kinds.{name_of}
use Rattle.jl_text.specs.declared.notice.Notice.{Notice}
use Rattle.jl_text.specs.declared.notice.Notice.TheVariants.{Malformed, Usage, ReadFault, WriteFault, NoMemory, TooLong, TooWide}

-- Numbers are decimal. Files, frames and items are counted from 1.
abbrev pub notice_line : Notice → List ℕ
notice_line (Malformed file fault) =
    codes "jellyp: malformed: file " ++ decimal file ++ codes ", frame " ++ decimal fault.place.frame
    ++ codes ", row " ++ decimal fault.place.row ++ codes ": " ++ name_of fault.kind ++ codes "\n"
notice_line Usage = codes "usage: jellyp COMMAND [--NAME=VALUE]... [FILE]...\n"
notice_line (ReadFault file) = codes "jellyp: read fault: file " ++ decimal file ++ codes "\n"
notice_line WriteFault = codes "jellyp: write fault\n"
notice_line NoMemory = codes "jellyp: no memory\n"
notice_line TooLong = codes "jellyp: too long\n"
notice_line (TooWide item) = codes "jellyp: item " ++ decimal item ++ codes " too wide\n"
