use Rattle.ifmap_forms.specs.Scopes.{place_scope}
use Rattle.ifmap_requests.proofs.FormLaws.{all_bounds, refused_depth, refused_kinds, refused_links, refused_results, refused_size}
use Rattle.ifmap_requests.proofs.searching.read_bounds.Goals as goal

pub returns-in_err-match_links : goal.returns-in_err-match_links
returns-in_err-match_links c =
    let place = c.args.place.now in
    refused_links (place_scope place.declared.now place.path.now place.child) c.args.element.now
    c.from_residual.result c.in_err-match_links.field-0.0 c.from_residual.ensures.1 c.in_err-match_links.ensures

pub returns-in_err-max_depth : goal.returns-in_err-max_depth
returns-in_err-max_depth c =
    let place = c.args.place.now in
    refused_depth (place_scope place.declared.now place.path.now place.child) c.args.element.now
    c.in_ok-match_links.match_links c.in_ok-match_links.ensures
    c.from_residual-in_err-max_depth.result c.in_err-max_depth.field-0.0 c.from_residual-in_err-max_depth.ensures.1
    c.in_err-max_depth.ensures.answer

pub returns-in_err-max_size : goal.returns-in_err-max_size
returns-in_err-max_size c =
    let place = c.args.place.now in
    refused_size (place_scope place.declared.now place.path.now place.child) c.args.element.now
    c.in_ok-match_links.match_links c.in_ok-match_links.ensures c.in_ok-max_depth.max_depth c.in_ok-max_depth.ensures.answer
    c.from_residual-in_err-max_size.result c.in_err-max_size.field-0.0 c.from_residual-in_err-max_size.ensures.1
    c.in_err-max_size.ensures.answer

pub returns-in_err-result_filter : goal.returns-in_err-result_filter
returns-in_err-result_filter c =
    let place = c.args.place.now in
    refused_results (place_scope place.declared.now place.path.now place.child) c.args.element.now
    c.in_ok-match_links.match_links c.in_ok-match_links.ensures c.in_ok-max_depth.max_depth c.in_ok-max_depth.ensures.answer
    c.in_ok-max_size.max_size c.in_ok-max_size.ensures.answer
    c.from_residual-in_err-result_filter.result c.in_err-result_filter.field-0.0 c.from_residual-in_err-result_filter.ensures.1
    c.in_err-result_filter.ensures

pub returns-in_err-terminal : goal.returns-in_err-terminal
returns-in_err-terminal c =
    let place = c.args.place.now in
    refused_kinds (place_scope place.declared.now place.path.now place.child) c.args.element.now
    c.in_ok-match_links.match_links c.in_ok-match_links.ensures c.in_ok-max_depth.max_depth c.in_ok-max_depth.ensures.answer
    c.in_ok-max_size.max_size c.in_ok-max_size.ensures.answer c.in_ok-result_filter.result_filter c.in_ok-result_filter.ensures
    c.from_residual-in_err-terminal.result c.in_err-terminal.field-0.0 c.from_residual-in_err-terminal.ensures.1
    c.in_err-terminal.ensures

pub returns : goal.returns
returns c =
    let place = c.args.place.now in
    all_bounds (place_scope place.declared.now place.path.now place.child) c.args.element.now
    c.in_ok-match_links.match_links c.in_ok-match_links.ensures c.in_ok-max_depth.max_depth c.in_ok-max_depth.ensures.answer
    c.in_ok-max_size.max_size c.in_ok-max_size.ensures.answer c.in_ok-result_filter.result_filter c.in_ok-result_filter.ensures
    c.in_ok-terminal.terminal c.in_ok-terminal.ensures
