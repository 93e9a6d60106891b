use Rattle.std.proofs.Common.{length, Bor, List, ℕ, ◌∙◌, sym, refl, inl, inr, Some, ◌∷◌, [], ◌++◌, ap, Vec}
use Rattle.csv.specs.Reading.{default_config, strip_bom, Reached}
use Rattle.csv.specs.Records.{fields_of}
use Rattle.csv.specs.declared.parser.State.TheVariants as state
use Rattle.csv.proofs.ReadFacts.{rows-more}
use Rattle.fab_inventory.specs.declared.port.PortRow.{PortRow}
use Rattle.fab_wire_requests.proofs.PortListLemmas.{read-row, read-header, bad-row, bad-header}
use Rattle.fab_wire_requests.proofs.port_list.read_ports.Goals.{in-Some-columns+in-Some-read_row+else-is_err, in-None-columns+in-Some-header_in}
use Rattle.fab_wire_requests.proofs.port_list.read_ports.Goals as goal

pub loop-item-init : goal.loop-item-init
unfolding Reached
loop-item-init g c =
    let made = c.reader_of.ensures in
    let start = c.into_iter-item-iterator.ensures.into_iter_gives ∙ refl in
    rw (start, c.into_byte_records-item-items.ensures.rdr, c.new-rows.ensures.items) (
      made.trim,
      inr (inr (made.has_headers, made.headers)),
      c.into_byte_records-item-items.ensures.left,
      made.config,
      strip_bom c.args.text.now,
      made.source,
      [],
      (sym made.state, refl),
      (refl, refl),
    )

pub returns-in_default-read_row-clause-err : goal.returns-in_default-read_row-clause-err
returns-in_default-read_row-clause-err g c =
    let inv = c.loop-item.invariant in
    let s = rw (c.in-Some.is, c.in-Ok.is) at ((c.next.ensures.steps inv.2 inv.0).0 inv.1) in
    let m = rows-more (λ (s : Bor (List ℕ)). Some s.now) c.loop-item.item-iterator.rdr c.next.new.self.rdr (fields_of c.in-Ok.fields) default_config state.StartRecord (strip_bom c.args.text.now) inv.4 inv.6 inv.3 inv.5 inv.7 s.0 in
    rw c.line_behind.ensures (bad-row c.loop-item.columns c.in-Some-columns.addressed inv.6 c.loop-item.rows.items (fields_of c.in-Ok.fields) c.args.text.now (length c.loop-item.rows.items) inv.8 c.in-Some-columns.is c.in_default-read_row.ensures (_, m.0, m.2) refl)

pub returns-in_default-header_in-clause-err : goal.returns-in_default-header_in-clause-err
returns-in_default-header_in-clause-err g c =
    let inv = c.loop-item.invariant in
    let s = rw (c.in-Some.is, c.in-Ok.is) at ((c.next.ensures.steps inv.2 inv.0).0 inv.1) in
    let m = rows-more (λ (s : Bor (List ℕ)). Some s.now) c.loop-item.item-iterator.rdr c.next.new.self.rdr (fields_of c.in-Ok.fields) default_config state.StartRecord (strip_bom c.args.text.now) inv.4 inv.6 inv.3 inv.5 inv.7 s.0 in
    bad-header c.loop-item.columns inv.6 c.loop-item.rows.items (fields_of c.in-Ok.fields) c.args.text.now inv.8 c.in-None-columns.is c.in_default-header_in.ensures (_, m.0, m.2)

pub loop-item-preserved : goal.loop-item-preserved
loop-item-preserved g c =
    let inv = c.loop-item.invariant in
    let s = rw (c.in-Some.is, c.in-Ok.is) at ((c.next.ensures.steps inv.2 inv.0).0 inv.1) in
    let m = rows-more (λ (s : Bor (List ℕ)). Some s.now) c.loop-item.item-iterator.rdr c.next.new.self.rdr (fields_of c.in-Ok.fields) default_config state.StartRecord (strip_bom c.args.text.now) inv.4 inv.6 inv.3 inv.5 inv.7 s.0 in (
      s.0.3 ∙ inv.0,
      inl s.1,
      s.2,
      s.0.2 ∙ inv.3,
      m.0,
      m.1,
      inv.6 ++ fields_of c.in-Ok.fields ∷ [],
      m.2,
      elim c.match-columns.branch [
        | in-Some-columns+in-Some-read_row+else-is_err w ↦ read-row c.loop-item.columns c.match-columns.columns w.in-Some-columns.addressed inv.6 c.loop-item.rows.items c.match-columns.rows.items (fields_of c.in-Ok.fields) w.in-Some-read_row.row inv.8 w.in-Some-columns.is w.columns-is w.in-Some-read_row.ensures (ap (λ (v : Vec PortRow g.row.A.Denot). v.items) w.rows-is ∙ (rw w.if-is_err.ensures.negation at w.push.ensures.items))
        | in-None-columns+in-Some-header_in w ↦ read-header c.loop-item.columns c.match-columns.columns w.in-Some-header_in.addressed inv.6 c.loop-item.rows.items c.match-columns.rows.items (fields_of c.in-Ok.fields) inv.8 w.in-None-columns.is w.columns-is w.in-Some-header_in.ensures (ap (λ (v : Vec PortRow g.row.A.Denot). v.items) w.rows-is)
      ],
    )
