use Rattle.std.proofs.Common.{rules}
use Rattle.std.proofs.lemmas.Simd.{map-map}
use Rattle.config.specs.Values.{host_shown}
use Rattle.field.specs.Field.{named_host}
use Rattle.fields.proofs.put_hosts.Goals as goal

pub returns : goal.returns
returns c =
    let b = c.args.decode.now in
    rw (map-map named_host (host_shown b) _, ← c.used.ensures) (c.put_each.ensures 8 (λ h. named_host (host_shown b h)) (λ x d p q e called. search rules))
