-- The refusals: their numbers and names, as they are printed.
use Rattle.std.specs.Prelude.{ℕ, List, codes, Result, Ok, Err}
use Rattle.balise_rules.specs.declared.refusal.Refusal.{Refusal}
use Rattle.balise_rules.specs.declared.refusal.Refusal.TheVariants.{BadLine, BadHex, BadLength, SpareBits, NotABalise, NoEnd, PacketCut, LayoutMismatch, PacketZero, GroupSize, HeaderDisagrees, NumberReserved, GroupTwice, NoSuchGroup, NoSuchTelegram, NoSuchPacket, NoSuchVariable, Steering, ValueTooWide, NoRoom, NumberTaken, SamePlace, NothingToUndo, NothingToRedo, NoSuchEdit, DependsOn, JournalMismatch, Worn, InputTooLong, OutOfMemory, ReadFault, WriteFault}

unfoldable pub number_of : Refusal → ℕ
number_of BadLine = 1
number_of BadHex = 2
number_of BadLength = 3
number_of SpareBits = 4
number_of NotABalise = 5
number_of NoEnd = 6
number_of PacketCut = 7
number_of LayoutMismatch = 8
number_of PacketZero = 9
number_of GroupSize = 10
number_of HeaderDisagrees = 11
number_of NumberReserved = 12
number_of GroupTwice = 13
number_of NoSuchGroup = 14
number_of NoSuchTelegram = 15
number_of NoSuchPacket = 16
number_of NoSuchVariable = 17
number_of Steering = 18
number_of ValueTooWide = 19
number_of NoRoom = 20
number_of NumberTaken = 21
number_of SamePlace = 22
number_of NothingToUndo = 23
number_of NothingToRedo = 24
number_of NoSuchEdit = 25
number_of (DependsOn s) = 26
number_of JournalMismatch = 27
number_of Worn = 28
number_of InputTooLong = 29
number_of OutOfMemory = 30
number_of ReadFault = 31
number_of WriteFault = 32

unfoldable pub name_of : Refusal → List ℕ
name_of BadLine = codes "BadLine"
name_of BadHex = codes "BadHex"
name_of BadLength = codes "BadLength"
name_of SpareBits = codes "SpareBits"
name_of NotABalise = codes "NotABalise"
name_of NoEnd = codes "NoEnd"
name_of PacketCut = codes "PacketCut"
name_of LayoutMismatch = codes "LayoutMismatch"
name_of PacketZero = codes "PacketZero"
name_of GroupSize = codes "GroupSize"
name_of HeaderDisagrees = codes "HeaderDisagrees"
name_of NumberReserved = codes "NumberReserved"
name_of GroupTwice = codes "GroupTwice"
name_of NoSuchGroup = codes "NoSuchGroup"
name_of NoSuchTelegram = codes "NoSuchTelegram"
name_of NoSuchPacket = codes "NoSuchPacket"
name_of NoSuchVariable = codes "NoSuchVariable"
name_of Steering = codes "Steering"
name_of ValueTooWide = codes "ValueTooWide"
name_of NoRoom = codes "NoRoom"
name_of NumberTaken = codes "NumberTaken"
name_of SamePlace = codes "SamePlace"
name_of NothingToUndo = codes "NothingToUndo"
name_of NothingToRedo = codes "NothingToRedo"
name_of NoSuchEdit = codes "NoSuchEdit"
name_of (DependsOn s) = codes "DependsOn"
name_of JournalMismatch = codes "JournalMismatch"
name_of Worn = codes "Worn"
name_of InputTooLong = codes "InputTooLong"
name_of OutOfMemory = codes "OutOfMemory"
name_of ReadFault = codes "ReadFault"
name_of WriteFault = codes "WriteFault"

-- what comes next, where nothing was refused
abbrev pub and_then : {A B : Type 0} → Result A Refusal → (A → Result B Refusal) → Result B Refusal
and_then (Err r) next = Err r
and_then (Ok x) next = next x
