use Rattle.std.proofs.Common.{◌≡◌, ◌+◌, refl, ap, ◌∙◌, List, ◌++◌, map}
use Rattle.jl_sym_laws.specs.Summaries as sums
use Rattle.jl_sym.specs.Seen.{write_seen, demands_seen, summary_seen}
use Rattle.jl_compose.specs.Appending.{later_writes, narrow_later}
use Rattle.jl_compose.proofs.Pushing.{same_later}
use Rattle.jl_compose.proofs.composing.put_after.Goals as goal

pub returns-clause-seen : goal.returns-clause-seen
returns-clause-seen c =
    let bytes = c.args.bytes.now in
    let a = c.args.first.now in
    let b = c.args.second.now in
    let x = summary_seen bytes a in
    let y = summary_seen bytes b in
    -- the first one while its lists grow
    let held : sums.Summary = summary_seen bytes (record a { writes = c.replace-writes.new.dest; demands = c.replace-demands.new.dest }) in
    let ws : map (write_seen bytes) c.push_writes.new.out.items ≡ x.writes ++ later_writes x y.writes
    = c.in_ok-push_writes.ensures.seen
    ∙ (λ i. map (write_seen bytes) (c.replace-writes.ensures.value i).items ++ later_writes held (map (write_seen bytes) (c.deref.ensures.value i))) in
    let ds : demands_seen c.push_demands.new.out.items ≡ x.demands ++ narrow_later x y.demands
    = c.in_ok-push_demands.ensures bytes
    ∙ (λ i. demands_seen (c.replace-demands.ensures.value i).items ++ narrow_later held (demands_seen (c.deref-2.ensures.value i)))
    ∙ ap (λ (l : List sums.Demand). x.demands ++ l) (same_later held x y.demands refl (λ n. refl)) in
    λ i. record {
      rows = a.rows + b.rows;
      writes = ws i;
      name_entry = c.later_id-first.ensures i;
      prefix_entry = c.later_id-first-2.ensures i;
      datatype_entry = c.later_id-first-3.ensures i;
      ids = c.later_refs-first.ensures i;
      demands = ds i;
      subject = c.later_left-first.ensures.seen i;
      predicate = c.later_left-first-2.ensures.seen i;
      object = c.later_left-first-3.ensures.seen i;
      graph = c.later_left-first-4.ensures.seen i;
      open_graph = c.later_left-first-5.ensures.seen i;
    }
