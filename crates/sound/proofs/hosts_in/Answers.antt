use Rattle.std.proofs.Common.{◌∙◌, rules, tests}
use Rattle.std.proofs.lemmas.Iterator.{YieldsList-from_slice}
use Rattle.std.proofs.lemmas.Iterator.Search.{all_from_yields_List}
use Rattle.config.specs.Sound.{kind_in, hosts_in}
use Rattle.sound.proofs.Hosts.{all-is}
use Rattle.sound.proofs.hosts_in.Goals as goal

pub returns : goal.returns
unfolding hosts_in
returns c =
    all_from_yields_List (λ h. kind_in c.args.n h.kind) _ _ _ c.all.ensures.ran (YieldsList-from_slice c.used.result.now cc) (λ x b q k. search (rules, tests))
    ∙ rw (c.used.ensures) (all-is c.args.n _)
