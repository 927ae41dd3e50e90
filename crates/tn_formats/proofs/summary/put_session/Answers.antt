use Rattle.def_formats.specs.Sections.{section_lines}
use Rattle.tn_formats.specs.Values.{load_seen, line_seen}
use Rattle.tn_formats.proofs.Appends.{session_written}
use Rattle.tn_formats.proofs.summary.put_session.Goals as goal

pub returns : goal.returns
returns g c =
    session_written (section_lines c.args.text.now) _ _ _ _ _ _ _ (load_seen c.load_of.result) (line_seen c.longest.result)
    c.in_ok-put_signals.ensures c.in_ok-put_calls.ensures c.in_ok-put_processes.ensures c.in_ok-put_links.ensures c.in_ok-put_load.ensures c.in_ok-put_longest.ensures c.load_of.ensures c.longest.ensures
