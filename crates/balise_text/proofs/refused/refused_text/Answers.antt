use Rattle.std.proofs.Common.{◌∷◌, [], codes, decimal, ap, sym}
use Rattle.std.specs.Fmt.{digits}
use Rattle.balise_rules.specs.Refusals.{name_of, number_of}
use Rattle.balise_rules.specs.declared.refusal.Refusal.{Refusal}
use Rattle.balise_text.specs.Texts.{Text, whole_line}
use Rattle.balise_text.proofs.refused.refused_text.Goals as goal

abbrev line : Refusal → Text
line r = whole_line (codes "refused" ∷ decimal (number_of r) ∷ name_of r ∷ [])

pub returns-in-BadLine : goal.returns-in-BadLine
unfolding name_of number_of digits
returns-in-BadLine c = ap line (sym c.in-BadLine.is)

pub returns-in-BadHex : goal.returns-in-BadHex
unfolding name_of number_of digits
returns-in-BadHex c = ap line (sym c.in-BadHex.is)

pub returns-in-BadLength : goal.returns-in-BadLength
unfolding name_of number_of digits
returns-in-BadLength c = ap line (sym c.in-BadLength.is)

pub returns-in-SpareBits : goal.returns-in-SpareBits
unfolding name_of number_of digits
returns-in-SpareBits c = ap line (sym c.in-SpareBits.is)

pub returns-in-NotABalise : goal.returns-in-NotABalise
unfolding name_of number_of digits
returns-in-NotABalise c = ap line (sym c.in-NotABalise.is)

pub returns-in-NoEnd : goal.returns-in-NoEnd
unfolding name_of number_of digits
returns-in-NoEnd c = ap line (sym c.in-NoEnd.is)

pub returns-in-PacketCut : goal.returns-in-PacketCut
unfolding name_of number_of digits
returns-in-PacketCut c = ap line (sym c.in-PacketCut.is)

pub returns-in-LayoutMismatch : goal.returns-in-LayoutMismatch
unfolding name_of number_of digits
returns-in-LayoutMismatch c = ap line (sym c.in-LayoutMismatch.is)

pub returns-in-PacketZero : goal.returns-in-PacketZero
unfolding name_of number_of digits
returns-in-PacketZero c = ap line (sym c.in-PacketZero.is)

pub returns-in-GroupSize : goal.returns-in-GroupSize
unfolding name_of number_of digits
returns-in-GroupSize c = ap line (sym c.in-GroupSize.is)

pub returns-in-HeaderDisagrees : goal.returns-in-HeaderDisagrees
unfolding name_of number_of digits
returns-in-HeaderDisagrees c = ap line (sym c.in-HeaderDisagrees.is)

pub returns-in-NumberReserved : goal.returns-in-NumberReserved
unfolding name_of number_of digits
returns-in-NumberReserved c = ap line (sym c.in-NumberReserved.is)

pub returns-in-GroupTwice : goal.returns-in-GroupTwice
unfolding name_of number_of digits
returns-in-GroupTwice c = ap line (sym c.in-GroupTwice.is)

pub returns-in-NoSuchGroup : goal.returns-in-NoSuchGroup
unfolding name_of number_of digits
returns-in-NoSuchGroup c = ap line (sym c.in-NoSuchGroup.is)

pub returns-in-NoSuchTelegram : goal.returns-in-NoSuchTelegram
unfolding name_of number_of digits
returns-in-NoSuchTelegram c = ap line (sym c.in-NoSuchTelegram.is)

pub returns-in-NoSuchPacket : goal.returns-in-NoSuchPacket
unfolding name_of number_of digits
returns-in-NoSuchPacket c = ap line (sym c.in-NoSuchPacket.is)

pub returns-in-NoSuchVariable : goal.returns-in-NoSuchVariable
unfolding name_of number_of digits
returns-in-NoSuchVariable c = ap line (sym c.in-NoSuchVariable.is)

pub returns-in-Steering : goal.returns-in-Steering
unfolding name_of number_of digits
returns-in-Steering c = ap line (sym c.in-Steering.is)

pub returns-in-ValueTooWide : goal.returns-in-ValueTooWide
unfolding name_of number_of digits
returns-in-ValueTooWide c = ap line (sym c.in-ValueTooWide.is)

pub returns-in-NoRoom : goal.returns-in-NoRoom
unfolding name_of number_of digits
returns-in-NoRoom c = ap line (sym c.in-NoRoom.is)

pub returns-in-NumberTaken : goal.returns-in-NumberTaken
unfolding name_of number_of digits
returns-in-NumberTaken c = ap line (sym c.in-NumberTaken.is)

pub returns-in-SamePlace : goal.returns-in-SamePlace
unfolding name_of number_of digits
returns-in-SamePlace c = ap line (sym c.in-SamePlace.is)

pub returns-in-NothingToUndo : goal.returns-in-NothingToUndo
unfolding name_of number_of digits
returns-in-NothingToUndo c = ap line (sym c.in-NothingToUndo.is)

pub returns-in-NothingToRedo : goal.returns-in-NothingToRedo
unfolding name_of number_of digits
returns-in-NothingToRedo c = ap line (sym c.in-NothingToRedo.is)

pub returns-in-NoSuchEdit : goal.returns-in-NoSuchEdit
unfolding name_of number_of digits
returns-in-NoSuchEdit c = ap line (sym c.in-NoSuchEdit.is)

pub returns-in-DependsOn : goal.returns-in-DependsOn
unfolding name_of number_of digits
returns-in-DependsOn c = ap line (sym c.in-DependsOn.is)

pub returns-in-JournalMismatch : goal.returns-in-JournalMismatch
unfolding name_of number_of digits
returns-in-JournalMismatch c = ap line (sym c.in-JournalMismatch.is)

pub returns-in-Worn : goal.returns-in-Worn
unfolding name_of number_of digits
returns-in-Worn c = ap line (sym c.in-Worn.is)

pub returns-in-InputTooLong : goal.returns-in-InputTooLong
unfolding name_of number_of digits
returns-in-InputTooLong c = ap line (sym c.in-InputTooLong.is)

pub returns-in-OutOfMemory : goal.returns-in-OutOfMemory
unfolding name_of number_of digits
returns-in-OutOfMemory c = ap line (sym c.in-OutOfMemory.is)

pub returns-in-ReadFault : goal.returns-in-ReadFault
unfolding name_of number_of digits
returns-in-ReadFault c = ap line (sym c.in-ReadFault.is)

pub returns-in-WriteFault : goal.returns-in-WriteFault
unfolding name_of number_of digits
returns-in-WriteFault c = ap line (sym c.in-WriteFault.is)
