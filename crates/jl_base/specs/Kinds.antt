-- The names of the kinds of faults.
use Rattle.std.specs.Prelude.{ℕ, List, codes}
use Rattle.jl_base.specs.declared.kind.Kind.{Kind}
use Rattle.jl_base.specs.declared.kind.Kind.TheVariants.{Truncated, BadVarint, BadTag, WrongWire, Twice, BadUtf8, TooDeep, EmptyRow, NoOptions, BadOptions, TableTooLarge, OptionsDiffer, WrongRow, BadEntry, NoEntry, NoTerm, NoGraph, GraphOpen, BadLangtag, FrameTooLong, SmallNames, BadLogical, NoStar, NotPlain, EarlyNamespace}

-- what a fault's line calls it
abbrev pub name_of : Kind → List ℕ
name_of Truncated = codes "Truncated"
name_of BadVarint = codes "BadVarint"
name_of BadTag = codes "BadTag"
name_of WrongWire = codes "WrongWire"
name_of Twice = codes "Twice"
name_of BadUtf8 = codes "BadUtf8"
name_of TooDeep = codes "TooDeep"
name_of EmptyRow = codes "EmptyRow"
name_of NoOptions = codes "NoOptions"
name_of BadOptions = codes "BadOptions"
name_of TableTooLarge = codes "TableTooLarge"
name_of OptionsDiffer = codes "OptionsDiffer"
name_of WrongRow = codes "WrongRow"
name_of BadEntry = codes "BadEntry"
name_of NoEntry = codes "NoEntry"
name_of NoTerm = codes "NoTerm"
name_of NoGraph = codes "NoGraph"
name_of GraphOpen = codes "GraphOpen"
name_of BadLangtag = codes "BadLangtag"
name_of FrameTooLong = codes "FrameTooLong"
name_of SmallNames = codes "SmallNames"
name_of BadLogical = codes "BadLogical"
name_of NoStar = codes "NoStar"
name_of NotPlain = codes "NotPlain"
name_of EarlyNamespace = codes "EarlyNamespace"
