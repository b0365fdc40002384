pub mod StencilLaws
