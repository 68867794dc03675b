-- Why a program's words are refused.
use Rattle.std.specs.Prelude.{◌≡◌, ◌≢◌, List, ⊤}
use Rattle.clap.specs.Words.{App, Text, IsAmong, fault_of, kind_of}
use Rattle.clap.specs.declared.error.Error.{Error}
use Rattle.clap.specs.declared.error.ErrorKind.TheVariants.{DisplayHelp, OutOfMemory}
use Rattle.balise_arguments.specs.declared.fault.ArgsFault.{ArgsFault}
use Rattle.balise_arguments.specs.declared.fault.ArgsFault.TheVariants.{Help, Memory, Other}

-- the fault for an error of clap
abbrev pub IsFor : Error → ArgsFault → Type 0
IsFor error (Help e) = (kind_of error ≡ DisplayHelp) × (e ≡ error)
IsFor error Memory = kind_of error ≡ OutOfMemory
IsFor error (Other e) = (kind_of error ≢ DisplayHelp) × (kind_of error ≢ OutOfMemory) × (e ≡ error)

-- clap refuses the program's words so, and not because memory runs out
abbrev pub IsKindOf : App → List Text → Error → Type 0
IsKindOf program words e = IsAmong (kind_of e) (fault_of program words)

-- the fault of the words: help where clap is asked for it, memory at any time, and each other mistake
abbrev pub IsFaultOf : App → List Text → ArgsFault → Type 0
IsFaultOf program words (Help e) = (kind_of e ≡ DisplayHelp) × IsKindOf program words e
IsFaultOf program words Memory = ⊤
IsFaultOf program words (Other e) = (kind_of e ≢ DisplayHelp) × IsKindOf program words e
