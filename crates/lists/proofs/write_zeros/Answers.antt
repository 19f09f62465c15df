-- `lists::write_zeros`: the bytes of zeros are zeros.
use Rattle.std.proofs.Common.{ap, sym, ◌++◌, ◌*◌, List, ℕ, ◌∙◌, drop, replicate, length-take-le}
use Rattle.lists.proofs.ByteLists.{all_zero}
use Rattle.lists.proofs.write_zeros.Goals as goal

pub returns : goal.returns
returns c =
    let k = c.args.count in
    let zeros = c.fill.ensures.after (λ y e. e) ∙ ap (λ (n : ℕ). replicate n 0) (length-take-le (8 * k) c.args.bytes.now c.requires) ∙ sym (all_zero k) in
    ap (λ (front : List ℕ). front ++ drop (8 * k) c.args.bytes.now) zeros
