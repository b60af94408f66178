use Rattle.std.proofs.Common.{refl}
use Rattle.book.proofs.Tests.{equal_decided}
use Rattle.book.proofs.labels.is_real.Goals as goal

pub returns : goal.returns
returns g c =
    let h = c.in_ok-conjugate.ensures.is in
    record { is = (equal_decided g.R.Ring.exact g.met.R.Ring.lawful _ _ _ _ _ (g.met.R.Ring.decided _ _ _ c.eq.ensures) h.0 refl, h.1) }
