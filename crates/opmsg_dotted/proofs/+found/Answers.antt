use Rattle.std.proofs.Common.{◌≡◌, true, ◌+◌, ◌<◌, length, sym, ap, ◌∙◌, arith}
use lib.ListN.{length-drop}
use Rattle.wire.proofs.Parts.{rest_part}
use Rattle.opmsg_dotted.proofs.Follow.{sought_none, sought_end, sought_read, sought_filled, sought_other, sought_fits, sought_last, sought_within, sought_no_document, sought_not_within}
use Rattle.opmsg_dotted.proofs.+found.Goals as goal
use Rattle.opmsg_dotted.proofs.+found.Goals.{then-leads+else-n-text+then-xs-i-eq-DOCUMENT+else-found, then-leads+else-n-text+else-xs-i-eq-DOCUMENT, else-leads}

pub loop-i-init : goal.loop-i-init
loop-i-init t c = sought_none _ _ c.requires

-- the element has the text's first name, and that is its last
pub returns-then-n-text : goal.returns-then-n-text
returns-then-n-text t c = sym (sought_last _ _ _ c.loop-i.invariant c.loop-i-test.true _ c.name-first.ensures (sym c.leads.ensures ∙ c.if-leads.true) c.if-n-text.true)

pub within-requires : goal.within-requires
within-requires t c = (sought_read _ _ _ c.loop-i.invariant c.loop-i-test.true, ap length c.name-first.ensures)

-- or it is not the last, and the element is a document
pub slice_bounds-found-count : goal.slice_bounds-found-count
slice_bounds-found-count t c =
    omega (arith, sought_fits _ _ _ c.loop-i.invariant c.loop-i-test.true _ c.name-first.ensures (sym c.leads.ensures ∙ c.if-leads.true) c.if-n-text.false)

pub slice_bounds-found-start : goal.slice_bounds-found-start
slice_bounds-found-start t c =
    omega (arith, sought_fits _ _ _ c.loop-i.invariant c.loop-i-test.true _ c.name-first.ensures (sym c.leads.ensures ∙ c.if-leads.true) c.if-n-text.false)

pub found-requires : goal.found-requires
found-requires t c =
    let n = length c.name-first.result.now + 1 in
    let text = c.args.text.now in
    let fits = sought_fits _ _ _ c.loop-i.invariant c.loop-i-test.true _ c.name-first.ensures (sym c.leads.ensures ∙ c.if-leads.true) c.if-n-text.false in (
      rw (rest_part n text) (omega (arith, fits, c.decreases, length-drop n text)),
      rw c.within.ensures (sought_filled _ _ _ c.loop-i.invariant c.loop-i-test.true (omega arith)),
    )

pub returns-then-found : goal.returns-then-found
returns-then-found t c =
    let a = c.args in
    let fits = sought_fits _ _ _ c.loop-i.invariant c.loop-i-test.true _ c.name-first.ensures (sym c.leads.ensures ∙ c.if-leads.true) c.if-n-text.false in
    sym (sought_within _ _ _ c.loop-i.invariant c.loop-i-test.true _ c.name-first.ensures (sym c.leads.ensures ∙ c.if-leads.true) fits (omega arith)
    (rw (c.within.ensures, rest_part (length c.name-first.result.now + 1) a.text.now) at (sym c.found.ensures ∙ c.if-found.true)))

pub next-i-requires : goal.next-i-requires
next-i-requires t c = (sought_read _ _ _ c.loop-i.invariant c.loop-i-test.true, ap length c.name-first.ensures)

pub loop-i-preserved : goal.loop-i-preserved
loop-i-preserved t c =
    let a = c.args in
    let more = c.loop-i-test.true in
    let end = c.next-i.ensures.is in
    let name = c.name-first.result.now in
    let fits : c.leads.result ≡ true → (length name ≡ length a.text.now → ⊥) → length name < length a.text.now =
    λ e d. sought_fits _ _ _ c.loop-i.invariant more _ c.name-first.ensures (sym c.leads.ensures ∙ e) d in
    elim c.if-leads.branch [
      | then-leads+else-n-text+then-xs-i-eq-DOCUMENT+else-found w ↦
          sought_not_within _ _ _ c.loop-i.invariant more _ c.name-first.ensures (sym c.leads.ensures ∙ w.if-leads.true) (fits w.if-leads.true w.if-n-text.false) _ end w.if-xs-i-eq-DOCUMENT.true
          (rw (w.within.ensures, rest_part (length name + 1) a.text.now) at (sym w.found.ensures ∙ w.if-found.false))
      | then-leads+else-n-text+else-xs-i-eq-DOCUMENT w ↦
          sought_no_document _ _ _ c.loop-i.invariant more _ c.name-first.ensures (sym c.leads.ensures ∙ w.if-leads.true) (fits w.if-leads.true w.if-n-text.false) _ end w.if-xs-i-eq-DOCUMENT.false
      | else-leads w ↦ sought_other _ _ _ c.loop-i.invariant more _ end _ c.name-first.ensures (sym c.leads.ensures ∙ w.if-leads.false)
    ]

pub returns : goal.returns
returns t c = sym (sought_end _ _ _ c.loop-i.invariant c.loop-i-test.false)
