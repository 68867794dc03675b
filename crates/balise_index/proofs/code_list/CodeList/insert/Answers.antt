use Rattle.std.proofs.Common.{◌≡◌, arith, ap, sym, subst, ℕ, List}
use Rattle.balise_index.specs.Blocks.{RoomIn}
use Rattle.balise_index.specs.declared.code_list.Block.{Block}
use Rattle.balise_index.proofs.blocks.Laid.{found}
use Rattle.balise_index.proofs.code_list.CodeList.insert.Goals.{then-len-ge-MOST, else-len-ge-MOST}
use Rattle.balise_index.proofs.code_list.CodeList.insert.Goals as goal

room : (b c : ℕ) (xs ys : List Block) → b ≡ c → xs ≡ ys → RoomIn c ys → RoomIn b xs
room b c xs ys e f h = subst (λ l. RoomIn b l) (sym f) (subst (λ k. RoomIn k ys) (sym e) h)

pub put_in-requires-clause-room : goal.put_in-requires-clause-room
put_in-requires-clause-room c =
    elim c.if-len-ge-MOST.branch [
      | then-len-ge-MOST w ↦ room _ _ _ _ w.b-is (ap (λ s. s.blocks.items) w.self-inside-is) w.split-b.ensures.room
      | else-len-ge-MOST w ↦
          let f = found c.block_of-b.result c.self.inside.blocks.items c.index.result.now c.self.invariant.0 c.block_of-b.ensures.within c.index.ensures in
          room _ _ _ _ w.b-is (ap (λ s. s.blocks.items) w.self-inside-is) (omega (arith, f.next, w.if-len-ge-MOST.false, c.len-2.ensures, c.index.result.now.codes.ok.0))
    ]
