-- `relay::call`: lists of zeros, and their first places lent.
use Rattle.relay.proofs.SizeLaws.{fronts_opened}
use Rattle.relay.proofs.call.Goals as goal

pub returns : goal.returns
returns g c =
    let s = rw c.in-Some.is at c.in_ok-x.ensures in
    fronts_opened _ _ _ _ _ _ _ c.requires.sized c.requires.places.0 _ _ _ _ _ s.0 _ _ _ _ _ _ s.1 s.2 c.open.ensures
