use Rattle.line.specs.Line.{kind_value}
use Rattle.address_text.proofs.put_address.Goals as goal

pub returns-in-V4 : goal.returns-in-V4
unfolding kind_value
returns-in-V4 c =
    let p = c in rw p.in-V4.is p.put_four.ensures

pub returns-in-V6 : goal.returns-in-V6
unfolding kind_value
returns-in-V6 c =
    let p = c in rw p.in-V6.is p.put_six.ensures
