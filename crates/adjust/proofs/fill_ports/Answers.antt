use Rattle.adjust.proofs.fill_ports.Goals as goal

pub loop-i-init : goal.loop-i-init
loop-i-init g c =
    tt

pub loop-i-preserved : goal.loop-i-preserved
loop-i-preserved g c =
    tt
