use mathlib.Core.Path.{refl, sym, ◌∙◌}
use Rattle.report.proofs.Told.{fits-surely, fits-measured, untouched}
use Rattle.report.proofs.fits.Goals as goal

pub returns-then-surely_fits : goal.returns-then-surely_fits
returns-then-surely_fits c =
    let d = c.args.dst.now in
    record { value = fits-surely _ _ d (sym c.surely_fits.ensures ∙ c.if-surely_fits.true); dst_unchanged = refl }

pub returns : goal.returns
returns c =
    let d = c.args.dst.now in
    record { value = fits-measured _ _ d _ _ c.put_all-measured.ensures; dst_unchanged = untouched _ _ d _ _ c.put_all-measured.ensures }
