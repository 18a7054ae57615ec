use Rattle.std.proofs.Common.{[], Ok, ap, ◌∙◌}
use Rattle.element_pieces.specs.declared.Inflow.{Inflow}
use Rattle.element_pieces.specs.Inflow.{fresh, flowed_in}
use Rattle.element_input.proofs.WholeLaws.{unread, begun_here, from_begun, is_read, read_is}
use Rattle.element_input.proofs.read_file.Goals as goal

-- nothing is read into an unsound table
pub returns-in-Err : goal.returns-in-Err
returns-in-Err g c = ([], unread c.args.table _ c.in-Err.ensures)

-- what came is held by the inflow that is finished
pub unwrap-reading-requires : goal.unwrap-reading-requires
unwrap-reading-requires g c =
    let t = c.args.table in
    let b = c.begun-file in
    let e = ap (λ (x : Inflow). flowed_in (fresh t) (Ok x)) b.ensures ∙ c.in-Ok.ensures in
    let all = c.take_all-all in
    let came = from_begun t b.result.flow e _ _ _ (all.ensures b.result (begun_here t b.result.flow e _)) in
    is_read t b.result.flow e all.new.pieces.flow all.new.buffer came c.finish.result c.finish.ensures

pub returns-in-Ok-all : goal.returns-in-Ok-all
returns-in-Ok-all g c =
    let t = c.args.table in
    let b = c.begun-file in
    let e = ap (λ (x : Inflow). flowed_in (fresh t) (Ok x)) b.ensures ∙ c.in-Ok.ensures in
    let all = c.take_all-all in
    let came = from_begun t b.result.flow e _ _ _ (all.ensures b.result (begun_here t b.result.flow e _)) in
    read_is t b.result.flow e all.new.pieces.flow all.new.buffer came c.finish.result c.finish.ensures _ c.unwrap-reading.ensures

pub returns-in-Err-all : goal.returns-in-Err-all
returns-in-Err-all g c =
    let t = c.args.table in
    let b = c.begun-file in
    let e = ap (λ (x : Inflow). flowed_in (fresh t) (Ok x)) b.ensures ∙ c.in-Ok.ensures in
    let all = c.take_all-all in
    let came = from_begun t b.result.flow e _ _ _ (all.ensures b.result (begun_here t b.result.flow e _)) in
    read_is t b.result.flow e all.new.pieces.flow all.new.buffer came c.finish.result c.finish.ensures _ c.unwrap-reading.ensures
