use Rattle.std.proofs.Common.{◌≡◌, Err, sym, ◌∙◌, arith, rules}
use Rattle.wire.proofs.Outcome.{halt}
use Rattle.opmsg.specs.Sections.{max_sections}
use Rattle.opmsg.specs.Read.{read}
use Rattle.opmsg.proofs.Accepted.{headed}
use Rattle.opmsg_read.proofs.Assembled.{ready, rest, refused_flags, size, room, near, few_bytes, refused_sections, refused_names, shown}
use Rattle.opmsg_read.proofs.read.Goals as goal

pub returns-in_err-header : goal.returns-in_err-header
unfolding read
returns-in_err-header c =
    let e : c.from_residual.result ≡ Err c.in_err-header.field-0.0 = search rules in
    rw e (sym (halt _ (sym c.in_err-header.ensures)))

pub flagged-requires : goal.flagged-requires
flagged-requires c = (headed (sym c.in_ok-header.ensures)).whole

pub returns-in_err-flagged : goal.returns-in_err-flagged
returns-in_err-flagged c =
    let e : c.from_residual-in_err-flagged.result ≡ Err c.in_err-flagged.field-0.0 = search rules in
    rw e (sym (refused_flags _ _ (sym c.in_ok-header.ensures) (sym c.in_err-flagged.ensures)))

pub bounds-s-16 : goal.bounds-s-16
bounds-s-16 c = let r = ready _ _ (sym c.in_ok-header.ensures) (sym c.in_ok-flagged.ensures) in omega (arith, r.ended, r.whole)

pub overflow_sub-end : goal.overflow_sub-end
overflow_sub-end c =
    let r = ready _ _ (sym c.in_ok-header.ensures) (sym c.in_ok-flagged.ensures) in
    omega (arith, room r c.word-length.ensures c.checksum_size.ensures)

pub slice_bounds-xs-count : goal.slice_bounds-xs-count
slice_bounds-xs-count c =
    let r = ready _ _ (sym c.in_ok-header.ensures) (sym c.in_ok-flagged.ensures) in
    omega (arith, room r c.word-length.ensures c.checksum_size.ensures)

pub slice_bounds-xs-start : goal.slice_bounds-xs-start
slice_bounds-xs-start c =
    let r = ready _ _ (sym c.in_ok-header.ensures) (sym c.in_ok-flagged.ensures) in
    omega (arith, room r c.word-length.ensures c.checksum_size.ensures)

pub slice_bounds-xs-end : goal.slice_bounds-xs-end
slice_bounds-xs-end c =
    let r = ready _ _ (sym c.in_ok-header.ensures) (sym c.in_ok-flagged.ensures) in
    omega (arith, (near r c.word-length.ensures c.checksum_size.ensures).0)

pub sections-requires : goal.sections-requires
sections-requires c =
    let r = ready _ _ (sym c.in_ok-header.ensures) (sym c.in_ok-flagged.ensures) in
    omega (arith, few_bytes r c.word-length.ensures c.checksum_size.ensures, (near r c.word-length.ensures c.checksum_size.ensures).1)

pub returns-in_err-c : goal.returns-in_err-c
returns-in_err-c c =
    let a = c.args in
    let h = sym c.in_ok-header.ensures in
    let f = sym c.in_ok-flagged.ensures in
    let e : c.from_residual-in_err-c.result ≡ Err c.in_err-c.field-0.0 = search rules in
    rw e (sym (rest _ _ h f ∙ refused_sections a.e a.s.now _ _ c.word-length.ensures (size (ready _ _ h f) c.word-length.ensures c.checksum_size.ensures) c.in_err-c.ensures))

pub distinct_names-requires : goal.distinct_names-requires
unfolding max_sections
distinct_names-requires c =
    let r = ready _ _ (sym c.in_ok-header.ensures) (sym c.in_ok-flagged.ensures) in
    let g = c.in_ok-c.ensures in
    (g.few, omega (arith, g.near, few_bytes r c.word-length.ensures c.checksum_size.ensures, (near r c.word-length.ensures c.checksum_size.ensures).1), g.filled)

pub returns-in_err-distinct_names : goal.returns-in_err-distinct_names
returns-in_err-distinct_names c =
    let a = c.args in
    let h = sym c.in_ok-header.ensures in
    let f = sym c.in_ok-flagged.ensures in
    let g = c.in_ok-c.ensures in
    let e : c.from_residual-in_err-distinct_names.result ≡ Err c.in_err-distinct_names.field-0.0 = search rules in
    rw e (sym (rest _ _ h f
    ∙ refused_names a.e a.s.now _ _ c.word-length.ensures (size (ready _ _ h f) c.word-length.ensures c.checksum_size.ensures) g.parts g.read (sym (c.in_err-distinct_names.ensures g.parts.sections g.shows))))

pub view-requires : goal.view-requires
view-requires c = let r = ready _ _ (sym c.in_ok-header.ensures) (sym c.in_ok-flagged.ensures) in omega (arith, r.ended, r.whole)

pub returns : goal.returns
returns c =
    let a = c.args in
    let h = sym c.in_ok-header.ensures in
    let f = sym c.in_ok-flagged.ensures in
    let g = c.in_ok-c.ensures in
    rw (c.view.ensures g.parts g.shows.entries_is g.elements_is) (sym (rest _ _ h f
    ∙ shown a.e a.s.now _ _ c.word-length.ensures (size (ready _ _ h f) c.word-length.ensures c.checksum_size.ensures) g.parts g.read (sym (c.in_ok-distinct_names.ensures g.parts.sections g.shows))))
