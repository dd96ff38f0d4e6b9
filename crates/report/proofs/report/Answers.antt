use mathlib.Core.Path.{sym, ◌∙◌}
use borrow.Author.Tests.{not-true, not-false}
use Rattle.report.proofs.Told.{told-unsound, left-unsound, told-short, left-short, told-length, left-written}
use Rattle.report.proofs.report.Goals as goal

pub returns-then-not-is_sound : goal.returns-then-not-is_sound
returns-then-not-is_sound c =
    let e = sym c.is_sound.ensures ∙ not-true _ c.if-not-is_sound.true-raw in
    let d = c.args.dst.now in
    record { value = told-unsound _ _ d e; dst_after = left-unsound _ _ d e }

pub returns-then-not-fits : goal.returns-then-not-fits
returns-then-not-fits c =
    let d = c.args.dst.now in
    let s = sym c.is_sound.ensures ∙ not-false _ c.if-not-is_sound.false-raw in
    let e = sym c.fits.ensures.value ∙ not-true _ c.if-not-fits.true-raw in
    record { value = told-short _ _ d s _ c.fits.ensures.dst_unchanged e; dst_after = left-short _ _ d s _ c.fits.ensures.dst_unchanged e }

pub returns : goal.returns
returns c =
    let d = c.args.dst.now in
    let s = sym c.is_sound.ensures ∙ not-false _ c.if-not-is_sound.false-raw in
    let e = sym c.fits.ensures.value ∙ not-false _ c.if-not-fits.false-raw in
    record { value = told-length _ _ d s _ c.fits.ensures.dst_unchanged e _ _ c.put_all-written.ensures; dst_after = left-written _ _ d s _ c.fits.ensures.dst_unchanged e _ _ c.put_all-written.ensures }
