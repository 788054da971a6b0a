use Rattle.std.proofs.Common.{◌≡◌, ◌++◌, ap, sym, subst, ◌∙◌}
use Rattle.db_format.specs.Record.{columns}
use Rattle.db_format.specs.Seen.{marked}
use Rattle.btree_model.specs.Walk.{payload_of}
use Rattle.rowid_find.specs.Reach.{links_of, row_of_cell}
use Rattle.rowid_find.specs.Search.{IsChainRead, IsChainStopped, State}
use Rattle.rowid_find.proofs.RowSteps.{links_read, links_stopped, no_record, row_lost, row_put}
use Rattle.rowid_find.proofs.SearchSteps.{at_start, stopped_short}
use Rattle.rowid_find.proofs.row.put_row.Goals as goal

pub returns-in-Err-clause-on : goal.returns-in-Err-clause-on
returns-in-Err-clause-on g c told =
    stopped_short g.S.PageSource.refuses (g.S.PageSource.plain c.args.source.now.source.now)
    (at_start g.K.Sink.tells
    (row_of_cell (g.S.PageSource.plain c.args.source.now.source.now) c.args.n c.args.rowid (record { size = c.args.length; local = c.args.local.now; first = c.args.first }))
    (record { taken = g.K.Sink.taken c.args.out.now; waits = c.args.found.now.line; rows = c.args.found.now.rows; reads = c.args.source.now.reads; marks = marked c.args.found.now.seen }))

pub returns-in-Err-read_payload-clause-on : goal.returns-in-Err-read_payload-clause-on
returns-in-Err-read_payload-clause-on g c told =
    let pages = g.S.PageSource.plain c.args.source.now.source.now in
    let body : c.extend_from_slice.new.self.items ≡ c.args.local.now = c.in-Ok.ensures.items ∙ ap (λ l. l ++ c.args.local.now) c.clear.ensures.items in
    links_stopped pages c.args.n c.args.rowid (record { size = c.args.length; local = c.args.local.now; first = c.args.first }) g.K.Sink.tells (record { taken = g.K.Sink.taken c.args.out.now; waits = c.args.found.now.line; rows = c.args.found.now.rows; reads = c.args.source.now.reads; marks = marked c.args.found.now.seen })
    (record { reads = c.read_payload.new.source.reads; marks = marked c.read_payload.new.seen }) g.S.PageSource.refuses c.in-Err-read_payload.error
    (subst (λ l. IsChainStopped g.S.PageSource.refuses pages (links_of pages c.args.n (record { size = c.args.length; local = l; first = c.args.first })) (record { reads = c.args.source.now.reads; marks = marked c.args.found.now.seen }) (record { reads = c.read_payload.new.source.reads; marks = marked c.read_payload.new.seen }) c.in-Err-read_payload.error)
    body (c.in-Err-read_payload.ensures.on told))

pub returns-in-Err-read-clause-on : goal.returns-in-Err-read-clause-on
returns-in-Err-read-clause-on g c told =
    let pages = g.S.PageSource.plain c.args.source.now.source.now in
    let body : c.extend_from_slice.new.self.items ≡ c.args.local.now = c.in-Ok.ensures.items ∙ ap (λ l. l ++ c.args.local.now) c.clear.ensures.items in
    let read : IsChainRead (links_of pages c.args.n (record { size = c.args.length; local = c.args.local.now; first = c.args.first })) (payload_of pages (record { size = c.args.length; local = c.args.local.now; first = c.args.first })) c.read_payload.new.payload.items (record { reads = c.args.source.now.reads; marks = marked c.args.found.now.seen }) (record { reads = c.read_payload.new.source.reads; marks = marked c.read_payload.new.seen }) =
    subst (λ l. IsChainRead (links_of pages c.args.n (record { size = c.args.length; local = l; first = c.args.first })) (payload_of pages (record { size = c.args.length; local = l; first = c.args.first })) c.read_payload.new.payload.items (record { reads = c.args.source.now.reads; marks = marked c.args.found.now.seen }) (record { reads = c.read_payload.new.source.reads; marks = marked c.read_payload.new.seen }))
    body (c.in-Ok-read_payload.ensures.on told) in
    no_record pages c.args.n c.args.rowid (record { size = c.args.length; local = c.args.local.now; first = c.args.first }) g.K.Sink.tells (record { taken = g.K.Sink.taken c.args.out.now; waits = c.args.found.now.line; rows = c.args.found.now.rows; reads = c.args.source.now.reads; marks = marked c.args.found.now.seen })
    (record { reads = c.read_payload.new.source.reads; marks = marked c.read_payload.new.seen }) c.read_payload.new.payload.items read g.S.PageSource.refuses (ap columns (sym c.as_slice.ensures.value) ∙ c.in-Err-read.ensures.read)

pub returns-then-found-clause-on : goal.returns-then-found-clause-on
returns-then-found-clause-on g c told =
    let pages = g.S.PageSource.plain c.args.source.now.source.now in
    let body : c.extend_from_slice.new.self.items ≡ c.args.local.now = c.in-Ok.ensures.items ∙ ap (λ l. l ++ c.args.local.now) c.clear.ensures.items in
    let read : IsChainRead (links_of pages c.args.n (record { size = c.args.length; local = c.args.local.now; first = c.args.first })) (payload_of pages (record { size = c.args.length; local = c.args.local.now; first = c.args.first })) c.read_payload.new.payload.items (record { reads = c.args.source.now.reads; marks = marked c.args.found.now.seen }) (record { reads = c.read_payload.new.source.reads; marks = marked c.read_payload.new.seen }) =
    subst (λ l. IsChainRead (links_of pages c.args.n (record { size = c.args.length; local = l; first = c.args.first })) (payload_of pages (record { size = c.args.length; local = l; first = c.args.first })) c.read_payload.new.payload.items (record { reads = c.args.source.now.reads; marks = marked c.args.found.now.seen }) (record { reads = c.read_payload.new.source.reads; marks = marked c.read_payload.new.seen }))
    body (c.in-Ok-read_payload.ensures.on told) in
    stopped_short g.S.PageSource.refuses pages
    (links_read pages c.args.n c.args.rowid (record { size = c.args.length; local = c.args.local.now; first = c.args.first }) g.K.Sink.tells (record { taken = g.K.Sink.taken c.args.out.now; waits = c.args.found.now.line; rows = c.args.found.now.rows; reads = c.args.source.now.reads; marks = marked c.args.found.now.seen })
    (record { reads = c.read_payload.new.source.reads; marks = marked c.read_payload.new.seen }) c.read_payload.new.payload.items read)

pub returns-in-Err-put_entry-clause-on : goal.returns-in-Err-put_entry-clause-on
returns-in-Err-put_entry-clause-on g c told =
    let pages = g.S.PageSource.plain c.args.source.now.source.now in
    let body : c.extend_from_slice.new.self.items ≡ c.args.local.now = c.in-Ok.ensures.items ∙ ap (λ l. l ++ c.args.local.now) c.clear.ensures.items in
    let read : IsChainRead (links_of pages c.args.n (record { size = c.args.length; local = c.args.local.now; first = c.args.first })) (payload_of pages (record { size = c.args.length; local = c.args.local.now; first = c.args.first })) c.read_payload.new.payload.items (record { reads = c.args.source.now.reads; marks = marked c.args.found.now.seen }) (record { reads = c.read_payload.new.source.reads; marks = marked c.read_payload.new.seen }) =
    subst (λ l. IsChainRead (links_of pages c.args.n (record { size = c.args.length; local = l; first = c.args.first })) (payload_of pages (record { size = c.args.length; local = l; first = c.args.first })) c.read_payload.new.payload.items (record { reads = c.args.source.now.reads; marks = marked c.args.found.now.seen }) (record { reads = c.read_payload.new.source.reads; marks = marked c.read_payload.new.seen }))
    body (c.in-Ok-read_payload.ensures.on told) in
    row_lost pages c.args.n c.args.rowid (record { size = c.args.length; local = c.args.local.now; first = c.args.first }) g.K.Sink.tells (record { taken = g.K.Sink.taken c.args.out.now; waits = c.args.found.now.line; rows = c.args.found.now.rows; reads = c.args.source.now.reads; marks = marked c.args.found.now.seen })
    (record { reads = c.read_payload.new.source.reads; marks = marked c.read_payload.new.seen }) c.read_payload.new.payload.items read c.in-Ok-read.row (ap columns (sym c.as_slice.ensures.value) ∙ c.in-Ok-read.ensures.read)
    (g.K.Sink.taken c.put_entry.new.out) c.put_entry.new.line c.in-Err-put_entry.ensures.part

pub returns-in-Ok-put_entry-clause-on : goal.returns-in-Ok-put_entry-clause-on
returns-in-Ok-put_entry-clause-on g c told =
    let pages = g.S.PageSource.plain c.args.source.now.source.now in
    let body : c.extend_from_slice.new.self.items ≡ c.args.local.now = c.in-Ok.ensures.items ∙ ap (λ l. l ++ c.args.local.now) c.clear.ensures.items in
    let read : IsChainRead (links_of pages c.args.n (record { size = c.args.length; local = c.args.local.now; first = c.args.first })) (payload_of pages (record { size = c.args.length; local = c.args.local.now; first = c.args.first })) c.read_payload.new.payload.items (record { reads = c.args.source.now.reads; marks = marked c.args.found.now.seen }) (record { reads = c.read_payload.new.source.reads; marks = marked c.read_payload.new.seen }) =
    subst (λ l. IsChainRead (links_of pages c.args.n (record { size = c.args.length; local = l; first = c.args.first })) (payload_of pages (record { size = c.args.length; local = l; first = c.args.first })) c.read_payload.new.payload.items (record { reads = c.args.source.now.reads; marks = marked c.args.found.now.seen }) (record { reads = c.read_payload.new.source.reads; marks = marked c.read_payload.new.seen }))
    body (c.in-Ok-read_payload.ensures.on told) in
    row_put pages c.args.n c.args.rowid (record { size = c.args.length; local = c.args.local.now; first = c.args.first }) g.K.Sink.tells (record { taken = g.K.Sink.taken c.args.out.now; waits = c.args.found.now.line; rows = c.args.found.now.rows; reads = c.args.source.now.reads; marks = marked c.args.found.now.seen })
    (record { reads = c.read_payload.new.source.reads; marks = marked c.read_payload.new.seen }) c.read_payload.new.payload.items read c.in-Ok-read.row (ap columns (sym c.as_slice.ensures.value) ∙ c.in-Ok-read.ensures.read)
    (g.K.Sink.taken c.put_entry.new.out) c.put_entry.new.line c.in-Ok-put_entry.ensures.done
