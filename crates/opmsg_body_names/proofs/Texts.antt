-- Laws of texts, passed on.
-- Assumes nothing.
pub use Rattle.opmsg_element_names.proofs.Texts.{not_both, neither, same_longer, same_text_lem, among_cons, among_append, among_last}
pub use Rattle.opmsg_element_names.proofs.Texts.{drop_next, take_whole, front_next, take_cons, map_take, map_drop, texts_take, texts_next}
